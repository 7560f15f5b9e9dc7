-- Items of a list by their indices.
use Rattle.std.specs.Prelude.{◌≡◌, ◌+◌, ℕ, List, Result, Ok, Err, Some, length, slice_get}

-- the item of an index, or by how much the index lies past the end of the list
abbrev pub IsItemAt : {X : Type 0} → List X → ℕ → Result X ℕ → Type 0
IsItemAt xs index (Ok x) = slice_get xs index ≡ Some x
IsItemAt xs index (Err left) = index ≡ length xs + left
