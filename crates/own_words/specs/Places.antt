-- The own words of a place, by what it results in: those of its outcome, and after them its version cells. BOHM makes room for each version
-- that a transaction may write before anything runs (J. M. Faleiro and D. J. Abadi, "Rethinking Serializable Multiversion Concurrency
-- Control", PVLDB 8, 2015, section 3).
use Rattle.std.specs.Prelude.{ℕ, List, [], ◌++◌, filter, slice_get}
use Rattle.std.specs.List.{flat_map}
use Rattle.std.specs.Option.{option_map_or}
use Rattle.model_base.specs.declared.outcome.Outcome.{Outcome}
use Rattle.model_base.specs.declared.statement.Access.{Access}
use Rattle.model_base.specs.declared.statement.Form.{Form}
use Rattle.model_base.specs.declared.statement.Statement.{Statement}
use Rattle.model_base.specs.Outcomes.{World, at_place, owners, world_before}
use Rattle.model_base.specs.Rows.{Rows}
use Rattle.model_base.specs.Versions.{accesses_of, is_writing}
use Rattle.own_words.specs.Words.{header, row_words}

-- the version cells, by the rows after the place: one for each access that may change its row, in order
abbrev pub cells : (ℕ → ℕ) → Form → Rows → List ℕ
cells columns form rows =
    flat_map (λ (access : Access). row_words (columns access.key.table) (rows access.key.table access.key.row))
    (filter is_writing (accesses_of form))

-- the own words of a place with this outcome, after which this is
abbrev pub own_words : (ℕ → ℕ) → Form → Outcome × World → List ℕ
own_words columns form result = header form result.0 ++ cells columns form result.1.rows

-- the own words of a place of a log, by the serial run of the whole log
abbrev pub words_at : (ℕ → ℕ) → List Statement → ℕ → List ℕ
words_at columns log place =
    option_map_or
    (λ (statement : Statement). own_words columns statement.form (at_place (owners log) place (world_before log place) statement))
    (slice_get log place) []
