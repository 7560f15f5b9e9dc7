use Rattle.std.proofs.Common.{◌≡◌, Some, refl, sym, subst}
use Rattle.std.specs.Prelude.{IsSome, unwrap_or}
use Rattle.std.specs.HashMap.{get}
use Rattle.grants_base.specs.Force.{IsWithdrawn}
use Rattle.grants_base.specs.Kept.{no_side}
use Rattle.grants_base.specs.Sides.{same_side}
use Rattle.grants_base.specs.declared.side.Several.{Several}
use Rattle.grants_base.specs.declared.index.HolderKey.{HolderKey}
use Rattle.grants_base.proofs.Keeping.{changed_in, put_changed, same_in}
use Rattle.grants_base.proofs.SideLaws.{side_true}
use Rattle.grants_base.proofs.in_force.GranteeIndex.take.Goals as goal

pub returns-in-Some-clause-made : goal.returns-in-Some-clause-made
returns-in-Some-clause-made c = λ other.
    let was = c.args.self.now.sides in
    let key = c.args.key.now in
    let value : Several = c.end.new.self in
    let now = get same_side (c.get_mut.follows.lender value) other in
    let told = c.get_mut.follows.holds value in
    same_in (λ (side : Several). side.made) (same_side key other) (unwrap_or (get same_side was other) no_side) (unwrap_or now no_side)
    (put_changed (same_side key other) no_side c.in-Some.side.now value (λ (old new : Several). new.made ≡ old.made) (get same_side was other) now
    c.end.ensures.made
    (λ here. subst (λ (s : HolderKey). get same_side was s ≡ Some c.in-Some.side.now) (side_true key other here) (sym c.in-Some.ensures.value))
    ((told.3 (subst IsSome c.in-Some.ensures.value refl)).0 other))

pub returns-in-Some-clause-taken : goal.returns-in-Some-clause-taken
returns-in-Some-clause-taken c = λ is other.
    let was = c.args.self.now.sides in
    let key = c.args.key.now in
    let value : Several = c.end.new.self in
    let now = get same_side (c.get_mut.follows.lender value) other in
    let told = c.get_mut.follows.holds value in
    changed_in (λ (side : Several). side.privilege) (same_side key other) _ (unwrap_or (get same_side was other) no_side) (unwrap_or now no_side)
    (put_changed (same_side key other) no_side c.in-Some.side.now value (λ (old new : Several). IsWithdrawn c.args.granted.now c.args.place c.args.option old.privilege new.privilege) (get same_side was other) now
    (c.end.ensures.taken is)
    (λ here. subst (λ (s : HolderKey). get same_side was s ≡ Some c.in-Some.side.now) (side_true key other here) (sym c.in-Some.ensures.value))
    ((told.3 (subst IsSome c.in-Some.ensures.value refl)).0 other))
