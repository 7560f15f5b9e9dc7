use Rattle.std.proofs.Common.{◌-◌, [], length, take, List, ℕ, refl, ◌∙◌, ap, subst}
use Rattle.std.specs.Prelude.{IsSome, unwrap_or}
use Rattle.std.specs.HashMap.{get}
use Rattle.grants_base.specs.Sides.{same_side}
use Rattle.grants_base.proofs.SideLaws.{put_by, side_true}
use Rattle.grants_base.proofs.index.Index.pop.Goals as goal

pub returns-in-Some : goal.returns-in-Some
returns-in-Some c = λ other.
    let was = c.args.self.now.sides in
    let side = c.args.side.now in
    let told = c.get_mut.follows.holds c.pop.new.self in
    put_by side other (λ (slots : List ℕ). take (length slots - 1) slots) c.pop.new.self (get same_side was side) (get same_side was other) (get same_side (c.get_mut.follows.lender c.pop.new.self) other)
    (c.pop.ensures ∙ ap (λ found. take (length (unwrap_or found []) - 1) (unwrap_or found [])) c.in-Some.ensures.value)
    (λ here. ap (get same_side was) (side_true side other here))
    ((told.3 (subst IsSome c.in-Some.ensures.value refl)).0 other)
