use Rattle.std.proofs.Common.{◌≡◌, ◌<◌, ◌≤◌, ◌+◌, [], length, drop, true, false, refl, sym, ◌∙◌, ap, subst, arith}
use Rattle.std.specs.List.{flat_map, list_any}
use Rattle.std.specs.Option.{option_to_list}
use Rattle.std.proofs.Math.ListN.{drop_of_length-le}
use Rattle.grants_base.specs.Index.{AreAsked, is_to}
use Rattle.grants_base.specs.Force.{later_of}
use Rattle.grants.specs.Loss.{last_end, narrowed, slot_loss}
use Rattle.grants_base.specs.View.{View, entries, slot_at, slot_gives}
use Rattle.grants.proofs.Asked.{found_within}
use Rattle.grants.proofs.Found.{any_idle, any_none, idle, last_idle, last_none}
use Rattle.grants_base.proofs.LaterOf.{later-assoc, later-none}
use Rattle.grants.proofs.LossLaws.{last_from}
use Rattle.grants.proofs.Narrow.{length-narrowed, slot_found}
use Rattle.grants.proofs.Standings.{when_held, when_lost}
use Rattle.grants.proofs.ViewLaws.{any_from, any_next}
use Rattle.grants.proofs.holding.standing_walked.Goals as goal

pub returns-in-Held-clause-value : goal.returns-in-Held-clause-value
returns-in-Held-clause-value g c =
    let whole = g.V.Records.shown c.args.view.now in
    let view = narrowed c.args.grantee.now whole in
    let user = c.args.user in
    let need = c.args.need.now in
    let asked = g.V.Records.asked c.loop-from.view in
    let are : AreAsked whole asked = subst (λ (v : View). AreAsked v asked) c.loop-from.invariant.same c.in-Some.ensures.asked in
    let i = c.in-Some.i in
    let there : i < length whole.slots = found_within whole asked are (is_to c.args.grantee.now need.kind need.table) i c.in-Some.ensures.next.1 in
    let within : i < length view.slots = omega (arith, there, length-narrowed c.args.grantee.now whole) in
    let passed = idle c.args.grantee.now whole user need asked are c.loop-from.from i c.in-Some.ensures.next.2 in
    let one = slot_found c.args.grantee.now need.kind need.table whole asked are i c.in-Some.ensures.next.1 in
    let here : slot_gives (slot_at view i) user need ≡ true =
    ap (λ slot. slot_gives slot user need) one
    ∙ ap (λ (v : View). slot_gives (slot_at v i) user need) (sym (c.in-Some.ensures.same ∙ c.loop-from.invariant.same)) ∙ when_held _ _ c.in-Held.ensures.value in
    let any : list_any (λ slot. slot_gives slot user need) view.slots ≡ true =
    sym c.loop-from.invariant.any ∙ sym (any_idle view user need c.loop-from.from i c.in-Some.ensures.next.0 (omega arith) passed) ∙ any_from view user need i within ∙ rw here refl in
    rw any refl

pub loop-from-preserved : goal.loop-from-preserved
loop-from-preserved g c =
    let whole = g.V.Records.shown c.args.view.now in
    let view = narrowed c.args.grantee.now whole in
    let user = c.args.user in
    let need = c.args.need.now in
    let asked = g.V.Records.asked c.loop-from.view in
    let are : AreAsked whole asked = subst (λ (v : View). AreAsked v asked) c.loop-from.invariant.same c.in-Some.ensures.asked in
    let i = c.in-Some.i in
    let same = c.in-Some.ensures.same ∙ c.loop-from.invariant.same in
    let there : i < length whole.slots = found_within whole asked are (is_to c.args.grantee.now need.kind need.table) i c.in-Some.ensures.next.1 in
    let within : i < length view.slots = omega (arith, there, length-narrowed c.args.grantee.now whole) in
    let passed = idle c.args.grantee.now whole user need asked are c.loop-from.from i c.in-Some.ensures.next.2 in
    let one = slot_found c.args.grantee.now need.kind need.table whole asked are i c.in-Some.ensures.next.1 in
    let told = when_lost _ _ _ c.in-Lost.ensures.value in
    let here : slot_gives (slot_at view i) user need ≡ false =
    ap (λ slot. slot_gives slot user need) one ∙ ap (λ (v : View). slot_gives (slot_at v i) user need) (sym same) ∙ told.0 in
    let rest = last_end (flat_map option_to_list (drop (i + 1) view.slots)) user need in
    let loss = told.1 ∙ ap (λ (v : View). slot_loss (slot_at v i) user need) same ∙ ap (λ slot. slot_loss slot user need) (sym one) in
    record {
      same = c.in-Lost.ensures.same ∙ same;
      slots = c.slots-end.ensures;
      within = omega (arith, there, c.slots-end.ensures);
      any =
          any_next view user need i within here
          ∙ any_idle view user need c.loop-from.from i c.in-Some.ensures.next.0 (omega arith) passed
          ∙ c.loop-from.invariant.any;
      last =
          ap (λ found. later_of found rest) (c.later-last.ensures ∙ ap (later_of c.loop-from.last) loss)
          ∙ later-assoc c.loop-from.last (slot_loss (slot_at view i) user need) rest
          ∙ ap (later_of c.loop-from.last) (sym (last_from view user need i within) ∙ last_idle view user need c.loop-from.from i c.in-Some.ensures.next.0 (omega arith) passed)
          ∙ c.loop-from.invariant.last;
    }

pub returns-in-None-clause-value : goal.returns-in-None-clause-value
returns-in-None-clause-value g c =
    let whole = g.V.Records.shown c.args.view.now in
    let view = narrowed c.args.grantee.now whole in
    let user = c.args.user in
    let need = c.args.need.now in
    let asked = g.V.Records.asked c.loop-from.view in
    let are : AreAsked whole asked = subst (λ (v : View). AreAsked v asked) c.loop-from.invariant.same c.in-None.ensures.asked in
    let passed = idle c.args.grantee.now whole user need asked are c.loop-from.from (length view.slots) (λ k low high. c.in-None.ensures.next k low) in
    let end : c.loop-from.from ≤ length view.slots = omega (arith, c.loop-from.invariant.within, c.slots-end.ensures, length-narrowed c.args.grantee.now whole) in
    let any : list_any (λ slot. slot_gives slot user need) view.slots ≡ false = sym c.loop-from.invariant.any ∙ any_none view user need c.loop-from.from end passed in
    let last : c.loop-from.last ≡ last_end (entries view) user need =
    sym (ap (later_of c.loop-from.last) (last_none view user need c.loop-from.from end passed) ∙ later-none c.loop-from.last) ∙ c.loop-from.invariant.last in
    rw (any, last) refl

pub returns-clause-value : goal.returns-clause-value
returns-clause-value g c =
    let whole = g.V.Records.shown c.args.view.now in
    let view = narrowed c.args.grantee.now whole in
    let user = c.args.user in
    let need = c.args.need.now in
    let over : length view.slots ≤ c.loop-from.from = omega (arith, c.loop-from-test.false, c.slots-end.ensures, length-narrowed c.args.grantee.now whole) in
    let none : drop c.loop-from.from view.slots ≡ [] = drop_of_length-le view.slots over in
    let any : list_any (λ slot. slot_gives slot user need) view.slots ≡ false = sym c.loop-from.invariant.any ∙ ap (list_any (λ slot. slot_gives slot user need)) none in
    let last : c.loop-from.last ≡ last_end (entries view) user need =
    sym (ap (λ slots. later_of c.loop-from.last (last_end (flat_map option_to_list slots) user need)) none ∙ later-none c.loop-from.last) ∙ c.loop-from.invariant.last in
    rw (any, last) refl
