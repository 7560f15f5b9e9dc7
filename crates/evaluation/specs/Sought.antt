-- The grants that are looked for, and the last end of one of them.
use Rattle.std.specs.Prelude.{◌≡◌, ◌==◌, ◌&&◌, ◌||◌, not, nat_le, ℕ, Bool, true, false, Option, Some, None, is_none, if◌then◌else◌}
use Rattle.model_base.specs.declared.deed.Grant.{Grant}
use Rattle.model_base.specs.declared.deed.Record.{Record}
use Rattle.grants_base.specs.Force.{end_if}
use Rattle.grants_base.specs.Index.{is_to}
use Rattle.grants_base.specs.View.{View, slot_at}
use Rattle.evaluation.specs.declared.in_force.Sought.{Sought}
use Rattle.evaluation.specs.declared.in_force.Wanted.{Wanted}
use Rattle.evaluation.specs.declared.in_force.Wanted.TheVariants.{By, Giving}

-- whether the grant has the option, where it is asked for, or is by this user
abbrev pub is_wanted : Wanted → Grant → Bool
is_wanted (Giving option) grant = grant.option || not option
is_wanted (By user) grant = grant.grantor == user

-- whether the grant is one of these, to the holder's grantee, of the kind on the table
abbrev pub is_sought : Sought → Grant → Bool
is_sought sought grant = is_to sought.holder.grantee sought.holder.kind sought.holder.table grant && is_wanted sought.wanted grant

-- the end of a slot's record, if there is one and its grant passes
abbrev pub slot_end : (Grant → Bool) → Option Record → Option ℕ
slot_end passes None = None
slot_end passes (Some entry) = end_if passes entry

-- whether a grant that is shown passes and its record has no end, and the end if it passes
abbrev pub open_grant : (Grant → Bool) → Option Grant → Option ℕ → Bool
open_grant passes None end = false
open_grant passes (Some grant) end = is_none end && passes grant

abbrev pub sought_end : (Grant → Bool) → Option Grant → Option ℕ → Option ℕ
sought_end passes None end = None
sought_end passes (Some grant) end = if passes grant then end else None

-- whether the place lies at the last one or below it
abbrev pub is_up_to : Option ℕ → ℕ → Bool
is_up_to None place = false
is_up_to (Some last) place = nat_le place last

-- the last one is the end of a record that the view shows and whose grant passes, if there is one, and none of those in the slots
-- that were looked at ended later
pub record IsLastEnd (passes : Grant → Bool) (view : View) (is_looked_at : ℕ → Bool) (last : Option ℕ) : Type 0 where
  pub there : (place : ℕ) → last ≡ Some place → (k : ℕ) × (slot_end passes (slot_at view k) ≡ Some place)
  pub latest : (k place : ℕ) → is_looked_at k ≡ true → slot_end passes (slot_at view k) ≡ Some place → is_up_to last place ≡ true
