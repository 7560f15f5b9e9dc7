use Rattle.std.proofs.Common.{◌≡◌, ◌<◌, length, true, Some, ◌∙◌, sym, subst, inl, inr}
use Rattle.grants.specs.Pass.{concerned}
use Rattle.grants_base.specs.Index.{is_one_of}
use Rattle.grants_base.specs.View.{View, slot_at}
use Rattle.grants.proofs.Named.{by_kind}
use Rattle.grants.proofs.cascade.add_named_to.Goals as goal

pub returns-clause-found : goal.returns-clause-found
returns-clause-found g c = λ j grant is to named.
    let there : View → Type 0 = λ view. concerned (slot_at view j) c.args.revocation.now ≡ Some grant in
    let second = subst there (sym c.add_named.ensures.same) is in
    let third = subst there (sym c.add_named-2.ensures.same) second in
    let fourth = subst there (sym c.add_named-3.ensures.same) third in
    let kept = c.in_ok-add_named-4.ensures.kept j in
    let kept-2 = λ (due : is_one_of c.add_named-2.new.due j ≡ true). kept (c.in_ok-add_named-3.ensures.kept j due) in
    by_kind (is_one_of c.add_named-4.new.due j ≡ true) grant.kind
    (λ kind. kept-2 (c.in_ok-add_named-2.ensures.kept j (c.in_ok-add_named.ensures.found j grant is to kind named)))
    (λ kind. kept-2 (c.in_ok-add_named-2.ensures.found j grant second to kind named))
    (λ kind. kept (c.in_ok-add_named-3.ensures.found j grant third to kind named))
    (λ kind. c.in_ok-add_named-4.ensures.found j grant fourth to kind named)

pub returns-clause-kept : goal.returns-clause-kept
returns-clause-kept g c = λ j due.
    c.in_ok-add_named-4.ensures.kept j (c.in_ok-add_named-3.ensures.kept j (c.in_ok-add_named-2.ensures.kept j (c.in_ok-add_named.ensures.kept j due)))

pub returns-clause-within : goal.returns-clause-within
returns-clause-within g c = λ j due.
    let below : View → Type 0 = λ view. j < length view.slots in
    let first = c.add_named.ensures.same in
    let second = c.add_named-2.ensures.same ∙ first in
    let third = c.add_named-3.ensures.same ∙ second in
    elim (c.in_ok-add_named-4.ensures.within j due) [
      | inr here ↦ inr (subst below third here)
      | inl due-3 ↦ elim (c.in_ok-add_named-3.ensures.within j due-3) [
        | inr here ↦ inr (subst below second here)
        | inl due-2 ↦ elim (c.in_ok-add_named-2.ensures.within j due-2) [
          | inr here ↦ inr (subst below first here)
          | inl due-1 ↦ c.in_ok-add_named.ensures.within j due-1
        ]
      ]
    ]
