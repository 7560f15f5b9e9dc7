-- The grants that the slots of a view ask for, made or not, and how those to one grantee or by one user are found among them.
use Rattle.std.specs.Prelude.{◌≡◌, ◌≢◌, ◌==◌, ◌<◌, ◌≤◌, ◌&&◌, ℕ, Bool, true, false, Option, Some, None, List, length, slice_get}
use Rattle.std.specs.List.{list_any}
use Rattle.std.specs.Option.{option_map_or}
use Rattle.model_base.specs.declared.deed.Kind.{Kind}
use Rattle.model_base.specs.declared.deed.Grant.{Grant}
use Rattle.model_base.specs.declared.deed.Grantee.{Grantee}
use Rattle.model_base.specs.Privileges.{same_grantee, same_kind}
use Rattle.grants_base.specs.View.{View, grant_in, slot_at}

-- whether the number, of a user or of a slot, is one of these
abbrev pub is_one_of : List ℕ → ℕ → Bool
is_one_of numbers number = list_any (λ other. other == number) numbers

-- whether the grant is of this kind on this table
abbrev pub is_about : Kind → ℕ → Grant → Bool
is_about kind table grant = same_kind kind grant.kind && (table == grant.table)

-- whether the grant is to this grantee, of this kind on this table
abbrev pub is_to : Grantee → Kind → ℕ → Grant → Bool
is_to grantee kind table grant = same_grantee grant.grantee grantee && is_about kind table grant

-- whether the grant is by this user, of this kind on this table
abbrev pub is_by : ℕ → Kind → ℕ → Grant → Bool
is_by user kind table grant = (grant.grantor == user) && is_about kind table grant

-- whether the grant of this slot passes
abbrev pub passes_at : (Grant → Bool) → List Grant → ℕ → Bool
passes_at passes asked i = option_map_or passes (slice_get asked i) false

-- the least slot at or above this one that is found, or none
abbrev pub IsFirst : (ℕ → Bool) → ℕ → Option ℕ → Type 0
IsFirst is_found from None = (k : ℕ) → from ≤ k → is_found k ≡ false
IsFirst is_found from (Some i) = (from ≤ i) × (is_found i ≡ true) × ((k : ℕ) → from ≤ k → k < i → is_found k ≡ false)

-- no slot but this one is found
abbrev pub IsOnly : (ℕ → Bool) → ℕ → Type 0
IsOnly is_found slot = (k : ℕ) → k ≢ slot → is_found k ≡ false

-- the least slot at or above this one whose grant passes, or none
abbrev pub IsNext : (Grant → Bool) → List Grant → ℕ → Option ℕ → Type 0
IsNext passes asked = IsFirst (passes_at passes asked)

-- each slot asks for one grant, and shows that or nothing
pub record AreAsked (view : View) (asked : List Grant) : Type 0 where
  pub long : length asked ≡ length view.slots
  pub each : (i : ℕ) (grant : Grant) → grant_in (slot_at view i) ≡ Some grant → slice_get asked i ≡ Some grant
