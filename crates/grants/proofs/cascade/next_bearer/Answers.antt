use Rattle.std.proofs.Common.{◌≡◌, ◌≤◌, ◌&&◌, not, Some, None, true, false, sym, ◌∙◌, ap, subst, arith, inl, inr}
use Rattle.std.proofs.lemmas.Bool.{cases_lt}
use Rattle.model_base.specs.declared.deed.Grantee.TheVariants.{User}
use Rattle.grants_base.specs.Index.{is_one_of}
use Rattle.grants.specs.Work.{IsNextCandidate, bears, slots_of}
use Rattle.grants_base.specs.View.{View, slot_at}
use Rattle.grants.proofs.Asked.{none_until, stood}
use Rattle.grants.proofs.cascade.next_bearer.Goals as goal

pub returns-then-stands-clause-passed : goal.returns-then-stands-clause-passed
returns-then-stands-clause-passed g c =
    let view = g.V.Records.shown c.args.view.now in
    let found : IsNextCandidate c.args.revocation.now (User c.args.holder.now.user) c.args.holder.now.kind true view c.loop-from.from (Some c.in-Some.i) =
    subst (λ (v : View). IsNextCandidate c.args.revocation.now (User c.args.holder.now.user) c.args.holder.now.kind true v c.loop-from.from (Some c.in-Some.i)) c.loop-from.invariant.same c.in-Some.ensures.next in
    none_until view c.args.revocation.now (slots_of c.args.ended.now.ends) c.args.holder.now.user c.args.holder.now.kind c.loop-from.from c.in-Some.i c.loop-from.invariant.none found.passed

pub returns-then-stands-clause-found : goal.returns-then-stands-clause-found
returns-then-stands-clause-found g c = λ less.
    let ended = slots_of c.args.ended.now.ends in
    ap (λ (v : View). bears c.args.revocation.now c.args.holder.now.user c.args.holder.now.kind (slot_at v c.in-Some.i) && not (is_one_of ended c.in-Some.i)) (sym (c.in-Some.ensures.same ∙ c.loop-from.invariant.same))
    ∙ sym c.stands.ensures.value ∙ c.if-stands.true

pub loop-from-preserved : goal.loop-from-preserved
loop-from-preserved g c =
    let view = g.V.Records.shown c.args.view.now in
    let ended = slots_of c.args.ended.now.ends in
    let i = c.in-Some.i in
    let same = c.in-Some.ensures.same ∙ c.loop-from.invariant.same in
    let none : (bears c.args.revocation.now c.args.holder.now.user c.args.holder.now.kind (slot_at view i) && not (is_one_of ended i)) ≡ false =
    ap (λ (v : View). bears c.args.revocation.now c.args.holder.now.user c.args.holder.now.kind (slot_at v i) && not (is_one_of ended i)) (sym same) ∙ sym c.stands.ensures.value ∙ c.if-stands.false in
    let found : IsNextCandidate c.args.revocation.now (User c.args.holder.now.user) c.args.holder.now.kind true view c.loop-from.from (Some c.in-Some.i) =
    subst (λ (v : View). IsNextCandidate c.args.revocation.now (User c.args.holder.now.user) c.args.holder.now.kind true v c.loop-from.from (Some c.in-Some.i)) c.loop-from.invariant.same c.in-Some.ensures.next in
    record {
      same = c.stands.ensures.same ∙ same;
      none = λ k less stays.
          elim (cases_lt k i) [
            | inl earlier ↦ none_until view c.args.revocation.now ended c.args.holder.now.user c.args.holder.now.kind c.loop-from.from i c.loop-from.invariant.none found.passed k earlier stays
            | inr later ↦
                let here : k ≡ i = omega arith in
                ap (λ j. bears c.args.revocation.now c.args.holder.now.user c.args.holder.now.kind (slot_at view j)) here
                ∙ stood (bears c.args.revocation.now c.args.holder.now.user c.args.holder.now.kind (slot_at view i)) (is_one_of ended i) none (ap (is_one_of ended) (sym here) ∙ stays)
          ];
    }

pub returns-in_default-clause-passed : goal.returns-in_default-clause-passed
returns-in_default-clause-passed g c =
    let view = g.V.Records.shown c.args.view.now in
    let found : IsNextCandidate c.args.revocation.now (User c.args.holder.now.user) c.args.holder.now.kind true view c.loop-from.from (Some c.in-Some.i) =
    subst (λ (v : View). IsNextCandidate c.args.revocation.now (User c.args.holder.now.user) c.args.holder.now.kind true v c.loop-from.from (Some c.in-Some.i)) c.loop-from.invariant.same c.in-Some.ensures.next in
    let over : c.args.below ≤ c.in-Some.i = omega (arith, c.if-i-below.false) in
    λ k less. none_until view c.args.revocation.now (slots_of c.args.ended.now.ends) c.args.holder.now.user c.args.holder.now.kind c.loop-from.from c.in-Some.i c.loop-from.invariant.none found.passed k (omega arith)

pub returns-in_default-2-clause-passed : goal.returns-in_default-2-clause-passed
returns-in_default-2-clause-passed g c =
    let view = g.V.Records.shown c.args.view.now in
    let none : IsNextCandidate c.args.revocation.now (User c.args.holder.now.user) c.args.holder.now.kind true view c.loop-from.from None =
    subst (λ (v : View). IsNextCandidate c.args.revocation.now (User c.args.holder.now.user) c.args.holder.now.kind true v c.loop-from.from None) c.loop-from.invariant.same c.in_default.ensures.next in
    none_until view c.args.revocation.now (slots_of c.args.ended.now.ends) c.args.holder.now.user c.args.holder.now.kind c.loop-from.from c.args.below c.loop-from.invariant.none (λ k from less. none.passed k from tt)
