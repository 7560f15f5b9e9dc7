-- How the rows that are there are spelled.
use Rattle.std.specs.Prelude.{◌≡◌, ◌==◌, ◌++◌, ℕ, Bool, List, Option, None, Some, codes, filter, length, true}
use Rattle.std.specs.Fmt.{decimal}
use Rattle.std.specs.List.{flat_map}
use Rattle.std.specs.Option.{option_map_or}
use Rattle.model_base.specs.declared.row.Key.{Key}
use Rattle.model_base.specs.Outcomes.{rows_before}
use Rattle.chains.specs.RowsThere.{AreRowsThere}
use Rattle.chains.specs.declared.listing.RowThere.{RowThere}
use Rattle.report.specs.Text.{numbers_text, table_name}
use Rattle.sequencer.specs.Log.{Accepted}
use Rattle.sequencer.specs.Names.{known_number}

-- the key of a row, as an access spells it; `tables` has the names by number
abbrev pub key_text : List (List ℕ) → Key → List ℕ
key_text tables key = table_name tables key.table ++ codes ":" ++ decimal key.row

-- the line of a row: its key, and the number in each of its columns
abbrev pub row_text : List (List ℕ) → RowThere → List ℕ
row_text tables row = key_text tables row.key ++ numbers_text row.values ++ codes "\n"

-- whether the row is of the table, if one is asked for
abbrev pub is_of_table : Option ℕ → RowThere → Bool
is_of_table table row = option_map_or (λ number. row.key.table == number) table true

-- the lines of the rows that are asked for
abbrev pub rows_text : List (List ℕ) → Option ℕ → List RowThere → List ℕ
rows_text tables table rows = flat_map (row_text tables) (filter (is_of_table table) rows)

-- the table that is asked for by its name, if one is
abbrev pub IsTableNamed : List (List ℕ) → Option (List ℕ) → Option ℕ → Type 0
IsTableNamed tables None table = table ≡ None
IsTableNamed tables (Some name) table = (number : ℕ) × ((known_number tables name ≡ Some number) × (table ≡ Some number))

-- no table has the name that is asked for
abbrev pub HasNoTable : List (List ℕ) → Option (List ℕ) → Type 0
HasNoTable tables None = ⊥
HasNoTable tables (Some name) = known_number tables name ≡ None

-- the text has a line for each row that is there at the end of a log, of the table of the name or without one of all: by table in the order in
-- which the tables were created, and then by number
pub record ListsRows (log : Accepted) (name : Option (List ℕ)) (text : List ℕ) : Type 0 where
  pub table : Option ℕ
  pub named : IsTableNamed log.names.tables name table
  pub rows : List RowThere
  pub all : AreRowsThere (rows_before log.statements (length log.statements)) rows
  pub told : text ≡ rows_text log.names.tables table rows
