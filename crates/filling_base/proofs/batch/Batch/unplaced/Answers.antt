use Rattle.std.proofs.Common.{◌≡◌, ◌<◌, ℕ, List, [], ◌∷◌, ◌++◌, length, refl, sym, ap, ◌∙◌, subst, inl, inr, arith, append_assoc, append-nil}
use Rattle.std.proofs.lemmas.Bool.{cases_eq}
use Rattle.bohm_core_base.specs.Batch.{Batch}
use Rattle.bohm_core_base.specs.declared.event.Event.{Event}
use Rattle.words.specs.declared.knowledge.Knowledge.{Knowledge}
use Rattle.words.specs.Passes.{PassState, gone_on}
use Rattle.words.specs.Views.{KnowsFront, with_front}
use Rattle.words.proofs.Known.{found-front, front-later, keeps-found}
use Rattle.filling_base.proofs.Going.{learns-front, learns-nothing}
use Rattle.filling_base.proofs.Learning.{again}
use Rattle.filling_base.proofs.batch.Batch.unplaced.Goals as goal

pub loop-partition-init : goal.loop-partition-init
loop-partition-init g c =
    let v = c.args.holding.now.view in
    record { same = refl; learns = learns-nothing v; found = ([], sym (append-nil v.front_sightings)); past = λ p less. absurd (omega arith) }

pub returns-then-front-index-clause-learns : goal.returns-then-front-index-clause-learns
returns-then-front-index-clause-learns g c =
    let old = c.loop-partition.holding in
    let new = c.front.new.pass in
    again c.args.holding.now.view old.view new.view c.loop-partition.invariant.learns
    (learns-front old.view new.view c.loop-partition.partition c.front.result (ap (λ (p : PassState). p.view) c.front.ensures.same))

pub returns-then-front-index-clause-found : goal.returns-then-front-index-clause-found
returns-then-front-index-clause-found g c =
    let invariant = c.self.invariant in
    let view = c.self.view_is in
    let same : g.K.BatchData.batch c.args.self.now.key ≡ g.K.BatchData.batch c.self.inside.key = cc in
    let words : g.K.BatchData.batch c.args.self.now.key ≡ g.K.BatchData.batch c.self.inside.words.key = cc in
    let b = g.K.BatchData.batch c.args.self.now.key in
    let v = c.args.holding.now.view in
    let old = c.loop-partition.holding in
    let new = c.front.new.pass in
    let partition = c.loop-partition.partition in
    let found = c.front.result in
    let index = c.args.index in
    let learns = c.loop-partition.invariant.learns in
    let view-is : new.view ≡ with_front old.view partition found = ap (λ (p : PassState). p.view) c.front.ensures.same in
    let end : c.partitions-partition-end.result ≡ b.partitions = c.partitions-partition-end.ensures.value ∙ ap (λ (x : Batch). x.partitions) (sym same) in
    let less = c.loop-partition-test.true in
    let low = c.if-front-index.true in
    let below : index < (g.K.BatchData.batch c.self.inside.words.key).size = subst (λ (x : Batch). index < x.size) words c.requires.within in
    record {
      learns = again v old.view new.view learns (learns-front old.view new.view partition found view-is);
      within = omega arith;
      unknown = λ knows. (let past = c.front.ensures.tells.known index below (front-later v old.view partition index learns.goes.fronts knows) in absurd (omega arith));
      undone = λ known. (let past = c.front.ensures.tells.done index (learns.goes.knows index known) in absurd (omega arith));
      found = found;
      short = omega arith;
      past = c.loop-partition.invariant.found.0;
      sighting = ap (λ (x : Knowledge). x.front_sightings) view-is
          ∙ ap (λ (l : List (ℕ × ℕ × ℕ)). l ++ (partition, found, length old.view.events) ∷ []) c.loop-partition.invariant.found.1
          ∙ append_assoc v.front_sightings c.loop-partition.invariant.found.0 ((partition, found, length old.view.events) ∷ [])
          ∙ ap (λ (l : List Event). v.front_sightings ++ (c.loop-partition.invariant.found.0 ++ (partition, found, length l) ∷ [])) learns.events;
    }

pub loop-partition-preserved : goal.loop-partition-preserved
loop-partition-preserved g c =
    let old = c.loop-partition.holding in
    let new = c.front.new.pass in
    let partition = c.loop-partition.partition in
    let found = c.front.result in
    let index = c.args.index in
    let i = c.loop-partition.invariant in
    let is = c.front.ensures.same in
    let view-is : new.view ≡ with_front old.view partition found = ap (λ (p : PassState). p.view) is in
    let high = c.if-front-index.false in
    record {
      same = subst (λ (p : PassState). new ≡ gone_on p new.view) i.same (is ∙ ap (λ (x : Knowledge). gone_on old x) (sym view-is));
      learns = again c.args.holding.now.view old.view new.view i.learns (learns-front old.view new.view partition found view-is);
      found = (
        i.found.0 ++ (partition, found, length old.view.events) ∷ [],
        ap (λ (x : Knowledge). x.front_sightings) view-is
            ∙ ap (λ (l : List (ℕ × ℕ × ℕ)). l ++ (partition, found, length old.view.events) ∷ []) i.found.1
            ∙ append_assoc c.args.holding.now.view.front_sightings i.found.0 ((partition, found, length old.view.events) ∷ []),
      );
      past = λ p less. subst (λ (x : Knowledge). KnowsFront x p index) (sym view-is)
          (elim (cases_eq p partition) [
            | inl same ↦ subst (λ (q : ℕ). KnowsFront (with_front old.view partition found) q index) (sym same) (found-front old.view partition found index (omega arith))
            | inr ne ↦ front-later old.view (with_front old.view partition found) p index (keeps-found old.view partition found) (i.past p (omega arith))
          ]);
    }

pub returns-clause-found : goal.returns-clause-found
returns-clause-found g c p low =
    let invariant = c.self.invariant in
    let view = c.self.view_is in
    let same : g.K.BatchData.batch c.args.self.now.key ≡ g.K.BatchData.batch c.self.inside.key = cc in
    let b = g.K.BatchData.batch c.args.self.now.key in
    let end : c.partitions-partition-end.result ≡ b.partitions = c.partitions-partition-end.ensures.value ∙ ap (λ (x : Batch). x.partitions) (sym same) in
    let over = c.loop-partition-test.false in
    let most = c.loop-partition.auto.partition-end in
    c.loop-partition.invariant.past p (omega arith)
