use Rattle.std.proofs.Common.{◌≡◌, ◌<◌, ℕ, ◌∷◌, List, refl, sym, ap, ◌∙◌, subst, inl, inr, arith}
use Rattle.bohm_core_base.specs.declared.event.Event.TheVariants.{GiveBack}
use Rattle.bohm_core_base.specs.Batch.{Batch}
use Rattle.words.specs.Passes.{PassState}
use Rattle.words.specs.Views.{In, with_event}
use Rattle.filling_base.specs.declared.walk.Frame.{Frame}
use Rattle.filling_base.specs.Walks.{IsPath, bottom, held, spot, waiting}
use Rattle.filling_base.proofs.Counting.{counts-back, counts-then, counts-to}
use Rattle.filling_base.proofs.Going.{same-on, same-then}
use Rattle.filling_base.proofs.Holding.{gives, reorder}
use Rattle.filling_base.proofs.Paths.{bottom-snoc, path-over, path-pop, path-top, to-back, to-front}
use Rattle.filling_base.proofs.Releasing.{released-first, released-more}
use Rattle.filling_base.proofs.batch.Batch.release.Goals as goal

pub give_back-requires-clause-within : goal.give_back-requires-clause-within
give_back-requires-clause-within g c =
    let invariant = c.self.invariant in
    let view = c.self.view_is in
    let words : g.K.BatchData.batch c.args.self.now.key ≡ g.K.BatchData.batch c.self.inside.words.key = cc in
    let s = spot c.args.walk in
    let top = path-top (g.K.BatchData.batch c.args.self.now.key) s.view.known s.frames s.at c.requires.walks.path in
    let within = c.requires.within in
    subst (λ (b : Batch). s.at < b.size) words (omega arith)

pub give_back-requires-clause-blank : goal.give_back-requires-clause-blank
give_back-requires-clause-blank g c = c.requires.walks.holds.these c.args.walk.at (inl refl)

pub loop-frame-init : goal.loop-frame-init
loop-frame-init g c =
    let b = g.K.BatchData.batch c.args.self.now.key in
    let old = c.args.walk.holding in
    let new = c.give_back.new.pass in
    let view-is : new.view ≡ with_event old.view (GiveBack old.number c.args.walk.at) = ap (λ (p : PassState). p.view) c.give_back.ensures in
    let fs = c.args.walk.stack.items in
    let h = c.requires.walks in
    let same = same-on old new _ c.give_back.ensures in record {
      same_table = same.table ∙ c.requires.same_table;
      same = same;
      bodies = counts-back (g.K.Fills.runs c.args.self.now.key) old new c.args.walk.at c.give_back.ensures;
      released = released-first (held (spot c.args.walk)) old.view new.view old.number c.args.walk.at (inl refl) view-is;
      holds = gives old.view new.view old.number c.args.walk.at (waiting fs) h.holds
          (λ i has e. (let over = path-over b old.view.known fs c.args.walk.at h.path i has in absurd (omega arith))) view-is;
      among = λ i has. inr has;
      path = (c.args.walk.at, c.requires.within, h.path);
    }

pub give_back-requires-in-Some-clause-within : goal.give_back-requires-in-Some-clause-within
give_back-requires-in-Some-clause-within g c =
    let invariant = c.self.invariant in
    let view = c.self.view_is in
    let words : g.K.BatchData.batch c.args.self.now.key ≡ g.K.BatchData.batch c.self.inside.words.key = cc in
    let b = g.K.BatchData.batch c.args.self.now.key in
    let known = c.args.walk.holding.view.known in
    let f = c.in-Some.frame in
    let gs = c.pop.new.self.items in
    let p = c.loop-frame.invariant.path in
    let popped = path-pop b known gs f p.0 (subst (λ (fs : List Frame). IsPath b known fs p.0) c.in-Some.ensures.items p.2) in
    let top = path-top b known gs f.index popped.0 in
    let low : bottom gs f.index < b.size = subst (λ (x : ℕ). x < b.size) (bottom-snoc gs f p.0) (subst (λ (fs : List Frame). bottom fs p.0 < b.size) c.in-Some.ensures.items p.1) in
    subst (λ (b : Batch). f.index < b.size) words (omega arith)

pub give_back-requires-in-Some-clause-blank : goal.give_back-requires-in-Some-clause-blank
give_back-requires-in-Some-clause-blank g c =
    c.loop-frame.invariant.holds.these c.in-Some.frame.index
    (subst (λ (fs : List Frame). In c.in-Some.frame.index (waiting fs)) (sym c.in-Some.ensures.items) (to-back c.pop.new.self.items c.in-Some.frame c.in-Some.frame.index (inl refl)))

pub loop-frame-preserved : goal.loop-frame-preserved
loop-frame-preserved g c =
    let b = g.K.BatchData.batch c.args.self.now.key in
    let i = c.loop-frame.invariant in
    let first = c.args.walk.holding in
    let old = c.loop-frame.holding in
    let new = c.give_back-in-Some.new.pass in
    let f = c.in-Some.frame in
    let gs = c.pop.new.self.items in
    let view-is : new.view ≡ with_event old.view (GiveBack old.number f.index) = ap (λ (p : PassState). p.view) c.give_back-in-Some.ensures in
    let same = same-on old new _ c.give_back-in-Some.ensures in
    let p = i.path in
    let popped = path-pop b first.view.known gs f p.0 (subst (λ (fs : List Frame). IsPath b first.view.known fs p.0) c.in-Some.ensures.items p.2) in
    let had : (j : ℕ) → In j (f.index ∷ waiting gs) → In j (waiting c.loop-frame.stack.items) =
    λ j has. subst (λ (fs : List Frame). In j (waiting fs)) (sym c.in-Some.ensures.items) (to-back gs f j has) in record {
      same_table = same.table ∙ i.same_table;
      same = same-then first old new i.same same;
      bodies = counts-then (g.K.Fills.runs c.args.self.now.key) first old new i.bodies
          (counts-back (g.K.Fills.runs c.args.self.now.key) old new f.index c.give_back-in-Some.ensures);
      released = released-more (held (spot c.args.walk)) first.view old.view new.view old.number f.index i.released (i.among f.index (had f.index (inl refl))) view-is;
      holds = gives old.view new.view old.number f.index (waiting gs)
          (reorder old.view (waiting c.loop-frame.stack.items) (f.index ∷ waiting gs)
          (λ j has. to-front gs f j (subst (λ (fs : List Frame). In j (waiting fs)) c.in-Some.ensures.items has)) had i.holds)
          (λ j has e. (let over = path-over b first.view.known gs f.index popped.0 j has in absurd (omega arith))) view-is;
      among = λ j has. i.among j (had j (inr has));
      path = (f.index, subst (λ (x : ℕ). x < b.size) (bottom-snoc gs f p.0) (subst (λ (fs : List Frame). bottom fs p.0 < b.size) c.in-Some.ensures.items p.1), popped.0);
    }

pub returns-clause-bodies : goal.returns-clause-bodies
returns-clause-bodies g c =
    counts-to (g.K.Fills.runs c.args.self.now.key) c.args.walk.holding c.loop-frame.holding c.end.result c.end.ensures c.loop-frame.invariant.bodies
