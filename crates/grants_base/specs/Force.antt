-- What is in force of a privilege, and when it was lost last.
use Rattle.std.specs.Prelude.{◌≡◌, ◌==◌, ◌&&◌, ◌||◌, not, ℕ, Bool, true, false, nat_lt, Option, Some, None, List, [], ◌∷◌, ◌++◌, is_none, slice_get, if◌then◌else◌}
use Rattle.std.specs.Bool.{OnFalse, OnTrue}
use Rattle.model_base.specs.declared.deed.Grant.{Grant}
use Rattle.model_base.specs.declared.deed.Grantee.{Grantee}
use Rattle.model_base.specs.declared.deed.Kind.{Kind}
use Rattle.model_base.specs.declared.deed.Record.{Record}
use Rattle.grants_base.specs.Index.{is_one_of, is_to}
use Rattle.grants_base.specs.SlotSet.{HasGained, HasLost}
use Rattle.grants_base.specs.GrantorSet.{HasGainedBy, HasLostBy, has_by}
use Rattle.std.specs.declared.alloc.Global.{Global}
use Rattle.std.specs.declared.boxed.Box.{Box}
use Rattle.grants_base.specs.declared.grantor_set.Granted.{Granted}
use Rattle.grants_base.specs.declared.force.Given.{Given}

-- the later of two places, of which either may be missing
abbrev pub later_of : Option ℕ → Option ℕ → Option ℕ
later_of None other = other
later_of (Some place) None = Some place
later_of (Some place) (Some other) = if nat_lt place other then Some other else Some place

-- whether the slot has a grant in force that passes
abbrev pub is_in_force : (Grant → Bool) → Option Record → Bool
is_in_force passes None = false
is_in_force passes (Some entry) = is_none entry.end && passes entry.grant

-- the end of the record, if its grant passes
abbrev pub end_if : (Grant → Bool) → Record → Option ℕ
end_if passes entry = if passes entry.grant then entry.end else None

-- the greatest of these
abbrev pub greatest_end : (Grant → Bool) → List Record → Option ℕ
greatest_end passes [] = None
greatest_end passes (entry ∷ entries) = later_of (end_if passes entry) (greatest_end passes entries)

-- whether the grant is to this grantee, of this kind on this table, and with the option where one is asked for
abbrev pub gives_to : Grantee → Kind → ℕ → Bool → Grant → Bool
gives_to grantee kind table option grant = is_to grantee kind table grant && (grant.option || not option)

-- whether the grant is by this user, to this grantee, of this kind on this table
abbrev pub gives_by : ℕ → Grantee → Kind → ℕ → Grant → Bool
gives_by user grantee kind table grant = is_to grantee kind table grant && (grant.grantor == user)

-- some slots, and a place at which others ended last
pub record Force : Type 0 where
  pub slots : List ℕ
  pub lost : Option ℕ

-- the slots of the records in force whose grants pass, and the greatest end of those that pass
pub record IsForceOf (passes : Grant → Bool) (entries : List Record) (force : Force) : Type 0 where
  pub slots : (k : ℕ) → is_one_of force.slots k ≡ is_in_force passes (slice_get entries k)
  pub lost : force.lost ≡ greatest_end passes entries

abbrev pub no_force : Force
no_force = record { slots = []; lost = None }

-- one slot more
pub record IsWithSlot (slot : ℕ) (old new : Force) : Type 0 where
  pub slots : HasGained slot old.slots new.slots
  pub lost : new.lost ≡ old.lost

-- one less, which ended at a place
pub record IsWithoutSlot (slot place : ℕ) (old new : Force) : Type 0 where
  pub slots : HasLost slot old.slots new.slots
  pub lost : new.lost ≡ later_of old.lost (Some place)

-- the same without the option, and with it, and the slots under their grantors
pub record Privilege : Type 0 where
  pub plain : Force
  pub with_option : Force
  pub by : List Granted

abbrev pub no_privilege : Privilege
no_privilege = record { plain = no_force; with_option = no_force; by = [] }

-- the slots under each user are those of the records in force whose grants pass and are by the user
abbrev pub AreByGrantors : (Grant → Bool) → List Record → List Granted → Type 0
AreByGrantors passes entries slots =
    (user k : ℕ) → has_by slots user k ≡ is_in_force (λ (grant : Grant). passes grant && (grant.grantor == user)) (slice_get entries k)

-- what is kept of a privilege, of which the option is asked for or not
abbrev pub force_of : Bool → Privilege → Force
force_of true privilege = privilege.with_option
force_of false privilege = privilege.plain

-- the slots of some grants in force, those of grants with the option, and all under their grantors
pub record GrantSlots : Type 0 where
  pub plain : List ℕ
  pub with_option : List ℕ
  pub by : List Granted

abbrev pub no_grant_slots : GrantSlots
no_grant_slots = record { plain = []; with_option = []; by = [] }

-- all of them, or those with the option
abbrev pub slots_given : Bool → GrantSlots → List ℕ
slots_given true held = held.with_option
slots_given false held = held.plain

-- what is held by one grant, if there is one
abbrev pub held_by_one : Option Given → GrantSlots
held_by_one None = no_grant_slots
held_by_one (Some given) = record {
  plain = given.slot ∷ [];
  with_option = if given.option then given.slot ∷ [] else [];
  by = record { grantor = given.grantor; slot = given.slot } ∷ [];
}

-- and by the others, if there are any
abbrev pub held_by_others : Option (Box GrantSlots Global) → GrantSlots
held_by_others None = no_grant_slots
held_by_others (Some others) = others.value

-- the privilege that both give, and the last places at which a grant, and one with the option, left force
abbrev pub privilege_of : GrantSlots → GrantSlots → Option ℕ → Option ℕ → Privilege
privilege_of one others lost lost_with_option = record {
  plain = record { slots = one.plain ++ others.plain; lost = lost };
  with_option = record { slots = one.with_option ++ others.with_option; lost = lost_with_option };
  by = one.by ++ others.by;
}

-- what is held by one grant more, which gives the option or not
pub record HasGainedGrant (granted : Granted) (option : Bool) (old new : GrantSlots) : Type 0 where
  pub plain : HasGained granted.slot old.plain new.plain
  pub with_option : OnTrue option (HasGained granted.slot old.with_option new.with_option)
  pub without_option : OnFalse option (new.with_option ≡ old.with_option)
  pub by : HasGainedBy granted old.by new.by

-- and by one less
pub record HasLostGrant (granted : Granted) (option : Bool) (old new : GrantSlots) : Type 0 where
  pub plain : HasLost granted.slot old.plain new.plain
  pub with_option : OnTrue option (HasLost granted.slot old.with_option new.with_option)
  pub without_option : OnFalse option (new.with_option ≡ old.with_option)
  pub by : HasLostBy granted old.by new.by

-- what is kept with the option changes so if the grant has it, and else not at all
abbrev pub IsForceChanged : Bool → (Force → Force → Type 0) → Privilege → Privilege → Type 0
IsForceChanged option Change old new =
    Change old.plain new.plain × OnTrue option (Change old.with_option new.with_option) × OnFalse option (new.with_option ≡ old.with_option)

-- the privilege after one more grant, which gives the option or not
abbrev pub IsGranted : Granted → Bool → Privilege → Privilege → Type 0
IsGranted granted option old new =
    IsForceChanged option (IsWithSlot granted.slot) old new × HasGainedBy granted old.by new.by

-- and after the end of one
abbrev pub IsWithdrawn : Granted → ℕ → Bool → Privilege → Privilege → Type 0
IsWithdrawn granted place option old new =
    IsForceChanged option (IsWithoutSlot granted.slot place) old new × HasLostBy granted old.by new.by
