use Rattle.std.proofs.Common.{◌≡◌, ◌<◌, suc, refl, sym, ap, ◌∙◌, subst, arith}
use Rattle.bohm_core_base.specs.Batch.{Batch}
use Rattle.filling_base.specs.References.{reference, reference_word}
use Rattle.words.specs.declared.knowledge.Knowledge.{Knowledge}
use Rattle.words.specs.Views.{IsSettled}
use Rattle.filling_base.specs.Tries.{IsKnownDone}
use Rattle.filling_base.specs.Walks.{IsWalk, MetHeld, GoesFurther, StepDone, asked_place, spot}
use Rattle.words.specs.Passes.{PassState}
use Rattle.words.proofs.Known.{keeps-same, past-later}
use Rattle.filling_base.proofs.Falling.{falls-at}
use Rattle.filling_base.proofs.Paths.{path-top}
use Rattle.filling_base.proofs.Seeing.{untold-free, untold-held}
use Rattle.filling_base.proofs.Steps.{at-spot, met-other, went-base, went-next}
use Rattle.filling_base.proofs.batch.Batch.step.Goals as goal

pub referred-requires-clause-within : goal.referred-requires-clause-within
referred-requires-clause-within g c =
    let s = spot c.args.walk.now in
    let top = path-top (g.K.BatchData.batch c.args.self.now.key) s.view.known s.frames s.at c.requires.walks.path in
    let within = c.requires.within in
    omega arith

pub referred-requires-clause-past : goal.referred-requires-clause-past
referred-requires-clause-past g c =
    let b = g.K.BatchData.batch c.args.self.now.key in
    let s = spot c.args.walk.now in
    let top = path-top b s.view.known s.frames s.at c.requires.walks.path in
    past-later b s.view s.view (asked_place s) s.at (keeps-same s.view) top c.requires.walks.past

pub look-requires-clause-within : goal.look-requires-clause-within
look-requires-clause-within g c =
    let invariant = c.self.invariant in
    let view = c.self.view_is in
    let same : g.K.BatchData.batch c.args.self.now.key ≡ g.K.BatchData.batch c.self.inside.key = cc in
    let words : g.K.BatchData.batch c.args.self.now.key ≡ g.K.BatchData.batch c.self.inside.words.key = cc in
    let s = spot c.args.walk.now in
    let b = g.K.BatchData.batch c.args.self.now.key in
    let short = c.requires.short in
    let names : reference b s.at s.next ≡ suc c.in-Some.index = sym c.referred.ensures.value ∙ ap reference_word c.in-Some.is in
    let below = falls-at b s.at s.next c.in-Some.index short names in
    let top = path-top b s.view.known s.frames s.at c.requires.walks.path in
    let within = c.requires.within in
    subst (λ (b : Batch). c.in-Some.index < b.size) words (omega arith)

pub returns-in-None-clause-stepped : goal.returns-in-None-clause-stepped
returns-in-None-clause-stepped g c =
    let invariant = c.self.invariant in
    let view = c.self.view_is in
    let same : g.K.BatchData.batch c.args.self.now.key ≡ g.K.BatchData.batch c.self.inside.key = cc in
    let s = spot c.args.walk.now in
    let p = c.referred.new.holding in
    let b = g.K.BatchData.batch c.args.self.now.key in
    let walks : IsWalk b (at-spot p.view s.at s.next s.frames) = subst (λ (q : PassState). IsWalk b (at-spot q.view s.at s.next s.frames)) (sym c.referred.ensures.same) c.requires.walks in
    let names : reference b s.at s.next ≡ 0 = sym c.referred.ensures.value ∙ ap reference_word c.in-None.is in
    subst (λ (q : PassState). GoesFurther b (at-spot q.view s.at s.next s.frames) (at-spot p.view s.at c.args.next s.frames)) c.referred.ensures.same
    (went-base b p.view s.at s.next c.args.next s.frames walks c.requires.short names c.requires.next)

pub returns-in-Held-clause-stepped : goal.returns-in-Held-clause-stepped
returns-in-Held-clause-stepped g c =
    let invariant = c.self.invariant in
    let view = c.self.view_is in
    let same : g.K.BatchData.batch c.args.self.now.key ≡ g.K.BatchData.batch c.self.inside.key = cc in
    let words : g.K.BatchData.batch c.args.self.now.key ≡ g.K.BatchData.batch c.self.inside.words.key = cc in
    let s = spot c.args.walk.now in
    let p = c.referred.new.holding in
    let b = g.K.BatchData.batch c.args.self.now.key in
    let walks : IsWalk b (at-spot p.view s.at s.next s.frames) = subst (λ (q : PassState). IsWalk b (at-spot q.view s.at s.next s.frames)) (sym c.referred.ensures.same) c.requires.walks in
    let names : reference b s.at s.next ≡ suc c.in-Some.index = sym c.referred.ensures.value ∙ ap reference_word c.in-Some.is in
    let untold : ¬ (IsKnownDone b p.view c.in-Some.index) =
    untold-held b p.view c.in-Some.index c.look.result c.in-Held.is c.look.ensures.known
    (λ settled. c.look.ensures.settled (subst (λ (x : Batch). IsSettled x p.view c.in-Some.index) words settled)) in
    subst (λ (q : PassState). MetHeld c.in-Some.index b (at-spot q.view s.at s.next s.frames) (at-spot c.look.new.pass.view s.at s.next s.frames)) c.referred.ensures.same
    (met-other b p.view c.look.new.pass.view s.at s.next c.in-Some.index s.frames s.frames walks c.requires.short names untold c.in-Held.ensures.tells refl)

pub enter-requires-clause-walks : goal.enter-requires-clause-walks
enter-requires-clause-walks g c =
    let s = spot c.args.walk.now in
    let b = g.K.BatchData.batch c.args.self.now.key in
    subst (λ (v : Knowledge). IsWalk b (at-spot v s.at s.next s.frames)) (sym (ap (λ (q : PassState). q.view) c.referred.ensures.same) ∙ sym c.in-Free.ensures.tells) c.requires.walks

pub enter-requires-clause-untold : goal.enter-requires-clause-untold
enter-requires-clause-untold g c =
    let view = c.self.view_is in
    let words : g.K.BatchData.batch c.args.self.now.key ≡ g.K.BatchData.batch c.self.inside.words.key = cc in
    let p = c.referred.new.holding in
    let b = g.K.BatchData.batch c.args.self.now.key in
    let untold : ¬ (IsKnownDone b p.view c.in-Some.index) =
    untold-free b p.view c.in-Some.index c.look.result c.in-Free.is c.look.ensures.known
    (λ settled. c.look.ensures.settled (subst (λ (x : Batch). IsSettled x p.view c.in-Some.index) words settled)) in
    subst (λ (v : Knowledge). ¬ (IsKnownDone b v c.in-Some.index)) (sym c.in-Free.ensures.tells) untold

pub enter-requires-clause-names : goal.enter-requires-clause-names
enter-requires-clause-names g c = sym c.referred.ensures.value ∙ ap reference_word c.in-Some.is

pub returns-in-Free-clause-stepped : goal.returns-in-Free-clause-stepped
returns-in-Free-clause-stepped g c =
    let s = spot c.args.walk.now in
    let b = g.K.BatchData.batch c.args.self.now.key in
    subst (λ (v : Knowledge). StepDone b (at-spot v s.at s.next s.frames) c.enter.result (spot c.enter.new.walk))
    (c.in-Free.ensures.tells ∙ ap (λ (q : PassState). q.view) c.referred.ensures.same) c.enter.ensures.stepped

pub returns-in-Done-clause-stepped : goal.returns-in-Done-clause-stepped
returns-in-Done-clause-stepped g c =
    let invariant = c.self.invariant in
    let view = c.self.view_is in
    let same : g.K.BatchData.batch c.args.self.now.key ≡ g.K.BatchData.batch c.self.inside.key = cc in
    let s = spot c.args.walk.now in
    let p = c.referred.new.holding in
    let b = g.K.BatchData.batch c.args.self.now.key in
    let walks : IsWalk b (at-spot p.view s.at s.next s.frames) = subst (λ (q : PassState). IsWalk b (at-spot q.view s.at s.next s.frames)) (sym c.referred.ensures.same) c.requires.walks in
    let names : reference b s.at s.next ≡ suc c.in-Some.index = sym c.referred.ensures.value ∙ ap reference_word c.in-Some.is in
    subst (λ (q : PassState). GoesFurther b (at-spot q.view s.at s.next s.frames) (at-spot c.look.new.pass.view s.at c.args.next s.frames)) c.referred.ensures.same
    (went-next b p.view c.look.new.pass.view s.at s.next c.args.next c.in-Some.index s.frames walks c.requires.short names c.in-Done.ensures.tells c.requires.next)
