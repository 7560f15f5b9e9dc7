use Rattle.std.proofs.Common.{◌≡◌, ℕ, ◌+◌, Bool, true, false, not, List, [], ◌∷◌, length, sym, ◌∙◌, arith, length-append}
use mir.Val.{bool_byte}
use Rattle.sequencer.specs.Names.{is_known, with_name}
use Rattle.sequencer.proofs.Tested.{tested_first, tested_new}
use Rattle.sequencer.proofs.testing.test_parties.Goals as goal

-- with the user there is one name more, if it is new
count_named : (names : List (List ℕ)) (user : List ℕ) (none : Bool) (count more : ℕ) → count ≡ length names → is_known names user ≡ not none
    → more ≡ bool_byte none → count + more ≡ length (with_name names user)
count_named names user true count more is known one = rw known (omega (arith, is, one, length-append names (user ∷ [])))
count_named names user false count more is known one = rw known (omega (arith, is, one))

pub grantees-init : goal.grantees-init
grantees-init c =
    rw c.all-left.ensures.all
    (tested_first c.args.users.now c.args.user.now c.args.grantees.now _ c.all-left.ensures.grammar c.in_ok-test_name.ensures
    (count_named c.args.users.now c.args.user.now c.is_none.result c.len.result c.from.result c.len.ensures.count (sym c.find.ensures.known ∙ c.is_none.ensures)
    c.from.ensures))

pub grantees-preserved-then-is_new : goal.grantees-preserved-then-is_new
grantees-preserved-then-is_new c =
    let h = rw c.in-Some.ensures at c.grantees.invariant in
    tested_new c.args.users.now c.args.user.now c.args.grantees.now c.in-Some.grantee c.next.new.self c.grantees.count h
    (sym c.is_new.ensures ∙ c.if-is_new.true) c.if-count-ge-MOST_NAMES.false
