use Rattle.std.proofs.Common.{◌≡◌, ◌≤◌, false, None, Some, sym, ◌∙◌, ap, subst, arith, inl, inr}
use Rattle.std.proofs.lemmas.Bool.{cases_lt}
use Rattle.grants_base.specs.Index.{AreAsked}
use Rattle.grants.specs.Loss.{narrowed}
use Rattle.grants_base.specs.View.{View, slot_at, slot_gives}
use Rattle.grants.proofs.Narrow.{slot_found}
use Rattle.explain.specs.Steps.{giving_in}
use Rattle.explain.proofs.Searching.{none_below, none_giving}
use Rattle.explain.proofs.paths.first_giving_to.Goals as goal
use Rattle.explain.proofs.paths.first_giving_to.Goals.{in_default-via-in-Some+else-slot-end, in_default-via-in_default}

pub returns-in_default-clause-first : goal.returns-in_default-clause-first
returns-in_default-clause-first g c =
    let view = g.V.Records.shown c.args.view.now in
    let asked = g.V.Records.asked c.loop-from.view in
    elim c.in_default.branch [
      | in_default-via-in-Some+else-slot-end w ↦
          let are : AreAsked view asked = subst (λ (v : View). AreAsked v asked) c.loop-from.invariant.same w.in-Some.ensures.asked in
          let over : c.args.end ≤ w.in-Some.slot = omega (arith, w.if-slot-end.false) in
          none_below c.args.grantee.now view asked c.args.user c.args.need.now c.loop-from.from c.args.end (Some w.in-Some.slot) are w.in-Some.ensures.next
          (λ slot same. let one : w.in-Some.slot ≡ slot = cc in omega (arith, over, one)) c.loop-from.invariant.none
      | in_default-via-in_default w ↦
          let are : AreAsked view asked = subst (λ (v : View). AreAsked v asked) c.loop-from.invariant.same w.in_default.ensures.asked in
          none_below c.args.grantee.now view asked c.args.user c.args.need.now c.loop-from.from c.args.end None are w.in_default.ensures.next
          (λ slot same. absurd (cc)) c.loop-from.invariant.none
    ]

pub returns-in-Some-giving_in-clause-first : goal.returns-in-Some-giving_in-clause-first
returns-in-Some-giving_in-clause-first g c =
    let view = g.V.Records.shown c.args.view.now in
    let asked = g.V.Records.asked c.loop-from.view in
    let slot = c.in-Some.slot in
    let same = c.in-Some.ensures.same ∙ c.loop-from.invariant.same in
    let are : AreAsked view asked = subst (λ (v : View). AreAsked v asked) c.loop-from.invariant.same c.in-Some.ensures.asked in (
      c.if-slot-end.true,
      ap (λ s. giving_in s c.args.user c.args.need.now) (slot_found c.args.grantee.now c.args.need.now.kind c.args.need.now.table view asked are slot c.in-Some.ensures.next.1)
          ∙ sym (c.in-Some-giving_in.ensures.value ∙ ap (λ (v : View). giving_in (slot_at v slot) c.args.user c.args.need.now) same),
      none_below c.args.grantee.now view asked c.args.user c.args.need.now c.loop-from.from slot (Some slot) are c.in-Some.ensures.next
          (λ other is. let one : slot ≡ other = cc in omega (arith, one)) c.loop-from.invariant.none,
    )

pub loop-from-preserved : goal.loop-from-preserved
loop-from-preserved g c =
    let view = g.V.Records.shown c.args.view.now in
    let asked = g.V.Records.asked c.loop-from.view in
    let slot = c.in-Some.slot in
    let user = c.args.user in
    let need = c.args.need.now in
    let same = c.in-Some.ensures.same ∙ c.loop-from.invariant.same in
    let are : AreAsked view asked = subst (λ (v : View). AreAsked v asked) c.loop-from.invariant.same c.in-Some.ensures.asked in
    let here : slot_gives (slot_at (narrowed c.args.grantee.now view) slot) user need ≡ false =
    ap (λ s. slot_gives s user need) (slot_found c.args.grantee.now need.kind need.table view asked are slot c.in-Some.ensures.next.1)
    ∙ none_giving (slot_at view slot) user need (c.in_default-giving_in.ensures.value ∙ ap (λ (v : View). giving_in (slot_at v slot) user need) same) in
    record {
      same = c.giving_in.ensures.same ∙ same;
      none = λ k less.
          elim (cases_lt k slot) [
            | inl earlier ↦
                none_below c.args.grantee.now view asked user need c.loop-from.from slot (Some slot) are c.in-Some.ensures.next
                (λ other is. let one : slot ≡ other = cc in omega (arith, one)) c.loop-from.invariant.none k earlier
            | inr later ↦ let last : k ≡ slot = omega arith in ap (λ j. slot_gives (slot_at (narrowed c.args.grantee.now view) j) user need) last ∙ here
          ];
    }
