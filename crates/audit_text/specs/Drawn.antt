-- Which grants of a book a picture of a place shows.
use Rattle.std.specs.Prelude.{◌==◌, ℕ, Bool, false, List, filter, map, nat_lt}
use Rattle.std.specs.List.{enumerate_from}
use Rattle.std.specs.Option.{option_map_or}
use Rattle.model_base.specs.declared.deed.Record.{Record}
use Rattle.model_base.specs.Ranks.{rank}
use Rattle.model_base.specs.Records.{is_in_force_at}
use Rattle.grants_base.specs.declared.entries.Creation.{Creation}

-- whether the grant fell at the place
abbrev pub fell_at : ℕ → Record → Bool
fell_at place entry = option_map_or (λ end. end == place) entry.end false

-- the records of the grants that are drawn
abbrev pub drawn : ℕ → List Record → List Record
drawn place entries = filter (is_in_force_at place) entries

-- the ranks of the drawn grants that fell at the place
abbrev pub fallen : ℕ → List Record → List ℕ
fallen place entries = map (λ (entry : Record). rank entry.grant) (filter (fell_at place) (drawn place entries))

-- whether the table of a number was created below the place
abbrev pub is_created_below : ℕ → ℕ × Creation → Bool
is_created_below place numbered = nat_lt numbered.1.place place

-- the tables that are drawn, each with its number
abbrev pub tables_drawn : ℕ → List Creation → List (ℕ × Creation)
tables_drawn place tables = filter (is_created_below place) (enumerate_from 0 tables)
