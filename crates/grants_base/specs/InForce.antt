-- The grants in force under each grantee, kind and table, as they are kept and found.
use Rattle.std.specs.Prelude.{◌≡◌, ℕ, Bool, true, List, slice_get, unwrap_or}
use Rattle.std.specs.Bool.{OnFalse, OnTrue}
use Rattle.std.specs.HashMap.{get}
use Rattle.model_base.specs.declared.deed.Grant.{Grant}
use Rattle.model_base.specs.declared.deed.Grantee.{Grantee}
use Rattle.model_base.specs.declared.deed.Kind.{Kind}
use Rattle.model_base.specs.declared.deed.Record.{Record}
use Rattle.grants_base.specs.Force.{AreByGrantors, IsForceOf, Privilege, force_of, gives_to, greatest_end, is_in_force}
use Rattle.grants_base.specs.Index.{IsFirst, is_to}
use Rattle.grants_base.specs.Kept.{no_side}
use Rattle.grants_base.specs.Sides.{same_side, side_of}
use Rattle.grants_base.specs.View.{View, entries, slot_at}
use Rattle.grants_base.specs.declared.force.NextBy.{NextBy}
use Rattle.grants_base.specs.declared.force.NextInForce.{NextInForce}
use Rattle.grants_base.specs.declared.in_force.GranteeIndex.{GranteeIndex}
use Rattle.grants_base.specs.declared.side.Several.{Several}
use Rattle.grants_base.specs.declared.index.HolderKey.{HolderKey}

-- what an index keeps under a side
abbrev pub side_under : GranteeIndex → HolderKey → Several
side_under index key = unwrap_or (get same_side index.sides key) no_side

-- the slots of all grants under a side
abbrev pub made_under : GranteeIndex → HolderKey → List ℕ
made_under index key = (side_under index key).made

-- and what is in force of them
abbrev pub privilege_under : GranteeIndex → HolderKey → Privilege
privilege_under index key = (side_under index key).privilege

-- what the index keeps under one side has changed so, and nothing else
abbrev pub IsChanged : HolderKey → (Privilege → Privilege → Type 0) → GranteeIndex → GranteeIndex → Type 0
IsChanged side Change old new =
    (other : HolderKey) → OnTrue (same_side side other) (Change (privilege_under old other) (privilege_under new other))
    × OnFalse (same_side side other) (privilege_under new other ≡ privilege_under old other)

-- what is kept of a grantee, kind and table is what is in force of the records
pub record IsPrivilegeOf (grantee : Grantee) (kind : Kind) (table : ℕ) (entries : List Record) (privilege : Privilege) : Type 0 where
  pub force : (option : Bool) → IsForceOf (gives_to grantee kind table option) entries (force_of option privilege)
  pub by : AreByGrantors (is_to grantee kind table) entries privilege.by

-- an index that is whole keeps under each grantee, kind and table what is in force of the records
abbrev pub KeepsInForce : GranteeIndex → List Record → Type 0
KeepsInForce index entries =
    index.is_whole ≡ true → (grantee : Grantee) (kind : Kind) (table : ℕ)
    → IsPrivilegeOf grantee kind table entries (privilege_under index (side_of grantee kind table))

-- the next record in force whose grant passes, and the greatest end of those that pass
pub record IsNextInForce (passes : Grant → Bool) (entries : List Record) (from : ℕ) (next : NextInForce) : Type 0 where
  pub slot : IsFirst (λ k. is_in_force passes (slice_get entries k)) from next.slot
  pub lost : next.lost ≡ greatest_end passes entries

-- the same of the slots of a view
pub record ShowsNextInForce (passes : Grant → Bool) (view : View) (from : ℕ) (next : NextInForce) : Type 0 where
  pub slot : IsFirst (λ k. is_in_force passes (slot_at view k)) from next.slot
  pub lost : next.lost ≡ greatest_end passes (entries view)

-- the next slot of a view with a grant in force that passes
abbrev pub ShowsNextSlot : (Grant → Bool) → View → ℕ → NextBy → Type 0
ShowsNextSlot passes view from next = IsFirst (λ k. is_in_force passes (slot_at view k)) from next.slot
