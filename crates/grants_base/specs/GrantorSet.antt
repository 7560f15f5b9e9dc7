-- Slots under the users who made their grants, as a list of both in whatever order.
use Rattle.std.specs.Prelude.{◌≡◌, ◌==◌, ◌&&◌, ◌||◌, not, ℕ, Bool, List}
use Rattle.std.specs.List.{list_any}
use Rattle.std.specs.Ordering.{nat_cmp, ordering_then}
use Rattle.std.specs.declared.cmp.Ordering.{Ordering}
use Rattle.grants_base.specs.declared.grantor_set.Granted.{Granted}

abbrev pub same_granted : Granted → Granted → Bool
same_granted a b = (a.grantor == b.grantor) && (a.slot == b.slot)

-- the order of the users, and for each that of the slots
abbrev pub granted_cmp : Granted → Granted → Ordering
granted_cmp a b = ordering_then (nat_cmp a.grantor b.grantor) (nat_cmp a.slot b.slot)

-- whether the slot is among these, under the user
abbrev pub has_by : List Granted → ℕ → ℕ → Bool
has_by slots user slot = list_any (λ (it : Granted). same_granted it (record { grantor = user; slot = slot })) slots

-- the one has this slot, and the slots of the other
abbrev pub HasGainedBy : Granted → List Granted → List Granted → Type 0
HasGainedBy granted old new =
    (user k : ℕ) → has_by new user k ≡ (has_by old user k || same_granted granted (record { grantor = user; slot = k }))

-- the one has the slots of the other but this
abbrev pub HasLostBy : Granted → List Granted → List Granted → Type 0
HasLostBy granted old new =
    (user k : ℕ) → has_by new user k ≡ (has_by old user k && not (same_granted granted (record { grantor = user; slot = k })))
