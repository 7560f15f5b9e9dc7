-- The rows that a map by hash holds.
use Rattle.std.specs.Prelude.{ℕ, ℤ, Bool, Option, None, List, IsSome, unwrap_or}
use Rattle.std.specs.HashMap.{get}
use Rattle.model_base.specs.Rows.{Rows}
use Rattle.model_base.specs.declared.row.Key.{Key}
use Rattle.body.specs.Room.{same_key}
use Rattle.body.specs.declared.row_map.RowMap.{RowMap}

-- whether two keys are one
abbrev pub key_eq : Key → Key → Bool
key_eq a b = same_key a.table a.row b.table b.row

-- the entry of a key
abbrev pub entry_of : RowMap → ℕ → ℕ → Option (Option (List ℤ))
entry_of map table row = get key_eq map.entries (record { table = table; row = row })

-- the rows that the map holds
abbrev pub rows_of : RowMap → Rows
rows_of map table row = unwrap_or (entry_of map table row) None

-- the map has an entry for the key
abbrev pub HasEntry : RowMap → ℕ → ℕ → Type 0
HasEntry map table row = IsSome (entry_of map table row)
