-- How many bodies are run for a place of a log. A transaction's logic is run once for all threads: J. M. Faleiro and D. J. Abadi,
-- "Rethinking Serializable Multiversion Concurrency Control", PVLDB 8 (2015), section 3. That its user's privileges are checked
-- before, and that the body of a denied one isn't run, is this project's own.
use Rattle.std.specs.Prelude.{◌+◌, ◌==◌, ◌&&◌, not, ℕ, Bool, true, false, List, slice_get, slice_index_or, if◌then◌else◌}
use Rattle.std.specs.Option.{option_map_or}
use Rattle.model_base.specs.declared.outcome.Outcome.{Outcome}
use Rattle.model_base.specs.declared.statement.Form.{Form}
use Rattle.model_base.specs.declared.statement.Statement.{Statement}
use Rattle.model_base.specs.Outcomes.{at_place, owners, world_before}
use Rattle.log_batch.specs.Supplied.{LogRange}

-- whether the statement is a transaction, which alone has a body, with a deed or without
abbrev pub has_body : Form → Bool
has_body (Form.Create table columns) = false
has_body (Form.Run accesses steps deed) = true
has_body (Form.Deed deed) = false

-- whether the outcome is a denial
abbrev pub is_denied : Outcome → Bool
is_denied (Outcome.Done outputs deed) = false
is_denied Outcome.Created = false
is_denied (Outcome.Denied need cause) = true
is_denied (Outcome.Aborted step reason) = false
is_denied (Outcome.Undeclared step) = false

-- whether own words give a denial
abbrev pub says_denied : List ℕ → Bool
says_denied own = slice_index_or own 0 0 == 3

-- how many bodies are run for a statement that results in this: that of a transaction which isn't denied
abbrev pub runs_for : Form → Outcome → ℕ
runs_for form outcome = if has_body form && not (is_denied outcome) then 1 else 0

-- how many are run for a place of a log, by its serial run
abbrev pub runs_in : List Statement → ℕ → ℕ
runs_in log place =
    option_map_or (λ (statement : Statement). runs_for statement.form
    (at_place (owners log) place (world_before log place) statement).0) (slice_get log place) 0

-- and for an index of a range of a log
abbrev pub runs_at : LogRange → ℕ → ℕ
runs_at ranged index = runs_in ranged.log.statements (ranged.first + index)
