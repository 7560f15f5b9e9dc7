use Rattle.std.proofs.Common.{◌≡◌, ℕ, ◌∙◌, arith, inl, inr, subst}
use Rattle.std.proofs.lemmas.Bool.{cases_lt}
use Rattle.words.specs.Views.{In}
use Rattle.workers.proofs.Going.{in_last, in_old, in_old_or_last}
use Rattle.workers.proofs.rounds.add_range.Goals as goal

pub loop-index-preserved : goal.loop-index-preserved
loop-index-preserved c =
    let invariant = c.loop-index.invariant in
    let index = c.loop-index.index in
    let rest = c.loop-index.rest.items in
    let after = c.push_back_reserved.new.self.items in
    let is = c.push_back_reserved.ensures.items in
    record {
      capacity = c.push_back_reserved.ensures.capacity ∙ invariant.capacity;
      len = omega (arith, c.push_back_reserved.ensures.len, invariant.len, c.loop-index.auto.index);
      keeps = λ other there. in_old other index rest after is (invariant.keeps other there);
      adds = λ other from less. elim (cases_lt other index) [
        | inl before ↦ in_old other index rest after is (invariant.adds other from before)
        | inr here ↦ let same : index ≡ other = omega arith in subst (λ (k : ℕ). In k after) same (in_last index rest after is)
      ];
      within = λ other there. elim (in_old_or_last other index rest after is there) [
        | inl old ↦ elim (invariant.within other old) [ inl first ↦ inl first | inr less ↦ inr (omega (arith, less)) ]
        | inr same ↦ inr (omega (arith, same))
      ];
    }

pub returns-clause-adds : goal.returns-clause-adds
returns-clause-adds c = λ index from less. c.loop-index.invariant.adds index from (omega (arith, less, c.loop-index-test.false))

pub returns-clause-within : goal.returns-clause-within
returns-clause-within c = λ index there. elim (c.loop-index.invariant.within index there) [
  | inl first ↦ inl first
  | inr less ↦ inr (omega (arith, less, c.loop-index.auto.index-end c.requires.order))
]
