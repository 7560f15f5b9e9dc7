-- Where a store of rows has room: at a key that has room, a row can be written without allocating.
use Rattle.std.specs.Prelude.{◌≡◌, ◌==◌, ◌&&◌, ◌<◌, ℕ, ℤ, Bool, false, Option, None, List, length, slice_index_or, IsSome}
use Rattle.model_base.specs.Rows.{Rows}
use Rattle.model_base.specs.declared.statement.Access.{Access}

-- whether two keys are one
abbrev pub same_key : ℕ → ℕ → ℕ → ℕ → Bool
same_key table row t r = (table == t) && (row == r)

-- there is room only for rows that are there
abbrev pub IsLean : (ℕ → ℕ → Type 0) → Rows → Type 0
IsLean HasRoom rows = (table row : ℕ) → HasRoom table row → IsSome (rows table row)

-- there is room at the key of each of the first accesses whose row is there
abbrev pub HasRoomBelow : (ℕ → ℕ → Type 0) → ℕ → List Access → List (Option (List ℤ)) → Type 0
HasRoomBelow HasRoom count accesses contents =
    (place : ℕ) (access : Access) → place < count → access ≡ slice_index_or accesses place access
    → IsSome (slice_index_or contents place None) → HasRoom access.key.table access.key.row

-- there is room at the key of each access whose row is there
abbrev pub HasRoomFrom : (ℕ → ℕ → Type 0) → List Access → List (Option (List ℤ)) → Type 0
HasRoomFrom HasRoom accesses contents = HasRoomBelow HasRoom (length accesses) accesses contents

-- at the keys of the first accesses there is room only for rows that are there
abbrev pub IsLeanBelow : (ℕ → ℕ → Type 0) → Rows → ℕ → List Access → Type 0
IsLeanBelow HasRoom rows count accesses =
    (place : ℕ) (access : Access) → place < count → access ≡ slice_index_or accesses place access
    → HasRoom access.key.table access.key.row → IsSome (rows access.key.table access.key.row)

-- at the keys of the first accesses whose row is absent in the list there is room only for rows that are there
abbrev pub IsLeanWhereAbsent : (ℕ → ℕ → Type 0) → Rows → ℕ → List Access → List (Option (List ℤ)) → Type 0
IsLeanWhereAbsent HasRoom rows count accesses contents =
    (place : ℕ) (access : Access) → place < count → access ≡ slice_index_or accesses place access
    → slice_index_or contents place None ≡ None
    → HasRoom access.key.table access.key.row → IsSome (rows access.key.table access.key.row)

-- the key is that of none of the first accesses
abbrev pub IsElsewhere : ℕ → List Access → ℕ → ℕ → Type 0
IsElsewhere count accesses table row =
    (place : ℕ) (access : Access) → place < count → access ≡ slice_index_or accesses place access
    → same_key access.key.table access.key.row table row ≡ false

-- all room was there before, but for that at the keys of the first accesses
abbrev pub MakesRoomBelow : (ℕ → ℕ → Type 0) → (ℕ → ℕ → Type 0) → ℕ → List Access → Type 0
MakesRoomBelow HadRoom HasRoom count accesses =
    (table row : ℕ) → IsElsewhere count accesses table row → HasRoom table row → HadRoom table row
