-- The rows that are there, one after another.
use Rattle.std.specs.Prelude.{◌≡◌, ◌==◌, ◌&&◌, ◌||◌, nat_lt, ℤ, Bool, true, All, Contains, Option, Some, List}
use Rattle.std.specs.List.{AllPairs}
use Rattle.std.specs.Option.{option_map}
use Rattle.model_base.specs.declared.row.Key.{Key}
use Rattle.model_base.specs.Rows.{Rows}
use Rattle.chains.specs.declared.listing.RowThere.{RowThere}
use Rattle.chains.specs.declared.replaced.Dated.{Dated}

-- whether a row is of an earlier table than the other, or of the same table and has a smaller number
abbrev pub is_listed_before : RowThere → RowThere → Bool
is_listed_before one other =
    nat_lt one.key.table other.key.table || ((one.key.table == other.key.table) && nat_lt one.key.row other.key.row)

-- these are all rows that are there, by table and then by number, each once
pub record AreRowsThere (rows : Rows) (found : List RowThere) : Type 0 where
  pub rising : AllPairs (λ (one later : RowThere). is_listed_before one later ≡ true) found
  pub there : All (λ (one : RowThere). rows one.key.table one.key.row ≡ Some one.values) found
  pub all :
      (key : Key) (values : List ℤ) → rows key.table key.row ≡ Some values
      → Contains found (record { key = key; values = values })

-- the row of an entry's newest version, if there is one
abbrev pub there_in : Key × Dated → Option RowThere
there_in entry = option_map (λ (values : List ℤ). record { key = entry.0; values = values }) entry.1.row
