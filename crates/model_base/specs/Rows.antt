-- The rows of all tables, as a map from keys; a key is a table and a row's number.
use Rattle.std.specs.Prelude.{◌==◌, ◌&&◌, ℕ, ℤ, Option, None, List, if◌then◌else◌}

-- a row is absent, or a list of whole numbers, and the map has one for each key
abbrev pub Rows : Type 0
Rows = ℕ → ℕ → Option (List ℤ)

-- at first all rows are absent
abbrev pub no_rows : Rows
no_rows table row = None

-- the same map, but for the row of this key
abbrev pub with_row : Rows → ℕ → ℕ → Option (List ℤ) → Rows
with_row rows table row content t r = if (table == t) && (row == r) then content else rows t r
