use Rattle.std.proofs.Common.{ℕ, List, Option, ◌≡◌, ◌<◌, ◌+◌, ◌-◌, ◌++◌, [], length, drop, Some, sym, refl, ◌∙◌, ap, subst, arith}
use Rattle.std.specs.Prelude.{IfNone}
use Rattle.std.proofs.lemmas.List.{append-nil}
use Rattle.std.proofs.Math.ListN.{drop_of_length-le}
use Rattle.grants.specs.Pass.{cascade, concerned_grants}
use Rattle.grants.specs.Work.{AllPassed, AreDue, AreEnds, slots_of, staying}
use Rattle.grants_base.specs.Index.{is_one_of}
use Rattle.grants_base.specs.View.{ShowsDeeds, View}
use Rattle.grants.proofs.SlotLaws.{pass_ends}
use Rattle.grants.proofs.Worklist.{IsFirstDue, ends_from, first_due, over_free}
use Rattle.grants_base.proofs.Walks.{nothing}
use Rattle.grants.proofs.Borne.{shows_borne}
use Rattle.grants.proofs.cascade.cascade.Goals as goal

pub overflow_add-next : goal.overflow_add-next
overflow_add-next g c =
    let view = g.V.Records.shown c.named.new.view in
    let first : IsFirstDue c.args.revocation.now view c.loop-slot.work.due c.pop_first.new.self (slots_of c.loop-slot.work.ended.ends) c.loop-slot.next c.in-Some.slot =
    first_due c.args.revocation.now view _ _ _ _ _ c.loop-slot.invariant.due c.in-Some.ensures.removal c.in-Some.ensures.above in
    let same : length view.slots ≡ c.slots-slots.result = ap (λ (v : View). length v.slots) c.in_ok-due.ensures.same ∙ sym c.slots-slots.ensures in
    omega (arith, first.within, same, c.slots-slots.type_inv)

pub judge-requires-clause-within : goal.judge-requires-clause-within
judge-requires-clause-within g c =
    let view = g.V.Records.shown c.named.new.view in
    let first : IsFirstDue c.args.revocation.now view c.loop-slot.work.due c.pop_first.new.self (slots_of c.loop-slot.work.ended.ends) c.loop-slot.next c.in-Some.slot =
    first_due c.args.revocation.now view _ _ _ _ _ c.loop-slot.invariant.due c.in-Some.ensures.removal c.in-Some.ensures.above in
    subst (λ (v : View). c.in-Some.slot < length v.slots) (sym c.loop-slot.invariant.same) first.within

pub judge-requires-clause-due : goal.judge-requires-clause-due
judge-requires-clause-due g c =
    let view = g.V.Records.shown c.named.new.view in
    let first : IsFirstDue c.args.revocation.now view c.loop-slot.work.due c.pop_first.new.self (slots_of c.loop-slot.work.ended.ends) c.loop-slot.next c.in-Some.slot =
    first_due c.args.revocation.now view _ _ _ _ _ c.loop-slot.invariant.due c.in-Some.ensures.removal c.in-Some.ensures.above in
    subst (λ (v : View). AreDue c.args.revocation.now v c.pop_first.new.self (slots_of c.loop-slot.work.ended.ends) (c.in-Some.slot + 1)) (sym c.loop-slot.invariant.same)
    (first.after (c.in-Some.slot + 1) refl)

pub judge-requires-clause-passed : goal.judge-requires-clause-passed
judge-requires-clause-passed g c =
    subst (λ (v : View). AllPassed c.args.revocation.now v (slots_of c.loop-slot.work.ended.ends) c.loop-slot.work.lost) (sym c.loop-slot.invariant.same) c.loop-slot.invariant.passed

pub judge-requires-clause-behind : goal.judge-requires-clause-behind
judge-requires-clause-behind g c =
    let view = g.V.Records.shown c.named.new.view in
    let first : IsFirstDue c.args.revocation.now view c.loop-slot.work.due c.pop_first.new.self (slots_of c.loop-slot.work.ended.ends) c.loop-slot.next c.in-Some.slot =
    first_due c.args.revocation.now view _ _ _ _ _ c.loop-slot.invariant.due c.in-Some.ensures.removal c.in-Some.ensures.above in
    first.behind

pub judge-requires-clause-ends : goal.judge-requires-clause-ends
judge-requires-clause-ends g c =
    subst (λ (v : View). AreEnds c.args.revocation.now v c.loop-slot.work.ended.ends c.loop-slot.work.ended.ranks) (sym c.loop-slot.invariant.same) c.loop-slot.invariant.ends

pub loop-slot-smaller : goal.loop-slot-smaller
loop-slot-smaller g c =
    let view = g.V.Records.shown c.named.new.view in
    let first : IsFirstDue c.args.revocation.now view c.loop-slot.work.due c.pop_first.new.self (slots_of c.loop-slot.work.ended.ends) c.loop-slot.next c.in-Some.slot =
    first_due c.args.revocation.now view _ _ _ _ _ c.loop-slot.invariant.due c.in-Some.ensures.removal c.in-Some.ensures.above in
    let old : length (g.V.Records.shown c.loop-slot.view).slots ≡ length view.slots = ap (λ (v : View). length v.slots) c.loop-slot.invariant.same in
    let new : length (g.V.Records.shown c.judge.new.view).slots ≡ length view.slots = ap (λ (v : View). length v.slots) (c.in_ok-judge.ensures.same ∙ c.loop-slot.invariant.same) in
    omega (arith, old, new, first.from, first.within)

pub loop-slot-preserved : goal.loop-slot-preserved
loop-slot-preserved g c =
    let view = g.V.Records.shown c.named.new.view in
    let revocation = c.args.revocation.now in
    let owner = c.owner-owner.result in
    let slot = c.in-Some.slot in
    let seen = c.loop-slot.invariant.same in
    let first : IsFirstDue revocation view c.loop-slot.work.due c.pop_first.new.self (slots_of c.loop-slot.work.ended.ends) c.loop-slot.next slot =
    first_due revocation view _ _ _ _ _ c.loop-slot.invariant.due c.in-Some.ensures.removal c.in-Some.ensures.above in
    record {
      same = c.in_ok-judge.ensures.same ∙ seen;
      due = subst (λ (v : View). AreDue revocation v c.judge.new.work.due (slots_of c.judge.new.work.ended.ends) (slot + 1)) seen c.in_ok-judge.ensures.due;
      passed = subst (λ (v : View). AllPassed revocation v (slots_of c.judge.new.work.ended.ends) c.judge.new.work.lost) seen c.in_ok-judge.ensures.passed;
      ends = subst (λ (v : View). AreEnds revocation v c.judge.new.work.ended.ends c.judge.new.work.ended.ranks) seen c.in_ok-judge.ensures.ends;
      next = omega (arith, first.within);
      whole = λ borne.
          let judged : c.judge.new.work.ended.ranks ++ ends_from revocation view owner (slots_of c.judge.new.work.ended.ends) (slot + 1) ≡ c.loop-slot.work.ended.ranks ++ ends_from revocation view owner (slots_of c.loop-slot.work.ended.ends) slot =
          subst (λ (v : View). c.judge.new.work.ended.ranks ++ ends_from revocation v owner (slots_of c.judge.new.work.ended.ends) (slot + 1) ≡ c.loop-slot.work.ended.ranks ++ ends_from revocation v owner (slots_of c.loop-slot.work.ended.ends) slot)
          seen c.in_ok-judge.ensures.whole in
          let on : ends_from revocation view owner (slots_of c.loop-slot.work.ended.ends) slot ≡ ends_from revocation view owner (slots_of c.loop-slot.work.ended.ends) c.loop-slot.next =
          over_free revocation view owner borne c.loop-slot.work.due (slots_of c.loop-slot.work.ended.ends) c.loop-slot.next c.loop-slot.invariant.due (slot - c.loop-slot.next) c.loop-slot.next slot
          (omega (arith, first.from)) (omega arith) (omega (arith, first.within)) first.free in
          judged ∙ ap (λ rest. c.loop-slot.work.ended.ranks ++ rest) on ∙ c.loop-slot.invariant.whole borne;
    }

pub returns-clause-ended : goal.returns-clause-ended
returns-clause-ended g c = λ owners deeds shows.
    let view = g.V.Records.shown c.named.new.view in
    let revocation = c.args.revocation.now in
    let owner = c.owner-owner.result in
    let same = c.in_ok-due.ensures.same in
    let here = subst (λ (v : View). ShowsDeeds v owners deeds) (sym same) shows in
    let owned : view.owner revocation.table ≡ Some owner = ap (λ (v : View). v.owner revocation.table) same ∙ c.owner-owner.ensures in
    let borne = shows_borne view owners deeds revocation owner here owned in
    let end = length view.slots in
    let on : ends_from revocation view owner (slots_of c.loop-slot.work.ended.ends) end ≡ ends_from revocation view owner (slots_of c.loop-slot.work.ended.ends) c.loop-slot.next =
    over_free revocation view owner borne c.loop-slot.work.due (slots_of c.loop-slot.work.ended.ends) c.loop-slot.next c.loop-slot.invariant.due (end - c.loop-slot.next) c.loop-slot.next end
    (omega (arith, c.loop-slot.invariant.next)) (omega arith) (omega arith) (λ j _ _. ap (λ (due : List ℕ). is_one_of due j) (subst (λ (found : Option ℕ). IfNone found (c.loop-slot.work.due ≡ [])) (nothing c.pop_first.result c.in_default.not-Some) c.pop_first.ensures.none)) in
    let none : drop end view.slots ≡ [] = drop_of_length-le view.slots (omega arith) in
    sym (ap (λ slots. c.loop-slot.work.ended.ranks ++ cascade owner revocation (staying revocation view (slots_of c.loop-slot.work.ended.ends) end) (concerned_grants revocation slots)) none ∙ append-nil c.loop-slot.work.ended.ranks)
    ∙ ap (λ rest. c.loop-slot.work.ended.ranks ++ rest) on
    ∙ c.loop-slot.invariant.whole borne
    ∙ pass_ends view owners deeds revocation owner here owned

pub returns-clause-ends : goal.returns-clause-ends
returns-clause-ends g c =
    subst (λ (v : View). AreEnds c.args.revocation.now v c.loop-slot.work.ended.ends c.loop-slot.work.ended.ranks) c.in_ok-due.ensures.same c.loop-slot.invariant.ends
