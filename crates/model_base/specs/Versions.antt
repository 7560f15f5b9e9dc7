-- The versions of rows that a place of the log leaves: BOHM places one for each declared write before anything runs (Faleiro and Abadi,
-- PVLDB 8, 2015, section 3). That a place which changes nothing fills its versions with what was before it is this project's own rule.
use Rattle.std.specs.Prelude.{ℕ, ◌+◌, ◌||◌, Bool, Option, List, [], ℤ, map, filter, slice_get}
use Rattle.std.specs.Option.{option_map_or}
use Rattle.model_base.specs.declared.statement.Access.{Access}
use Rattle.model_base.specs.declared.statement.Form.{Form}
use Rattle.model_base.specs.declared.statement.Statement.{Statement}
use Rattle.model_base.specs.Outcomes.{rows_before}

-- whether the access declares a kind that changes rows
abbrev pub is_writing : Access → Bool
is_writing access = access.kinds.insert || access.kinds.update || access.kinds.delete

-- the accesses of a statement
abbrev pub accesses_of : Form → List Access
accesses_of (Form.Create table columns) = []
accesses_of (Form.Run accesses steps deed) = accesses
accesses_of (Form.Deed deed) = []

-- the accesses of a statement that may change rows, in order
abbrev pub writes_of : Statement → List Access
writes_of statement = filter is_writing (accesses_of statement.form)

-- the version cells of a place: the row after it of each key that it may write, whatever its outcome
abbrev pub version_cells : List Statement → ℕ → List (Option (List ℤ))
version_cells log place =
    map (λ (access : Access). rows_before log (place + 1) access.key.table access.key.row)
    (option_map_or writes_of (slice_get log place) [])

-- the rows before a place of each key that it may write
abbrev pub copied_cells : List Statement → ℕ → List (Option (List ℤ))
copied_cells log place =
    map (λ (access : Access). rows_before log place access.key.table access.key.row)
    (option_map_or writes_of (slice_get log place) [])
