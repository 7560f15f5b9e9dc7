-- Where each place of a batch finds the rows that it reads and the grants that it is judged by. BOHM refers a read to the
-- newest version that is older than the reader, before anything runs (J. M. Faleiro and D. J. Abadi, "Rethinking
-- Serializable Multiversion Concurrency Control", PVLDB 8, 2015, section 3). That deeds are referred to in the same way is
-- this project's own. A place counts by what it declares, whatever its outcome.
use Rattle.std.specs.Prelude.{◌==◌, ◌&&◌, ◌++◌, ◌-◌, not, nat_lt, ℕ, zero, suc, Bool, false, List, [], ◌∷◌, filter, map, slice_get, if◌then◌else◌}
use Rattle.std.specs.List.{list_any, range_with_len}
use Rattle.std.specs.Option.{option_map_or}
use Rattle.model_base.specs.declared.deed.Need.{Need}
use Rattle.model_base.specs.declared.reference.Reference.{Reference}
use Rattle.model_base.specs.declared.reference.Reference.TheVariants.{Base, At}
use Rattle.model_base.specs.declared.statement.Access.{Access}
use Rattle.model_base.specs.declared.statement.DeedForm.{DeedForm}
use Rattle.model_base.specs.declared.statement.Form.{Form}
use Rattle.model_base.specs.declared.statement.Statement.{Statement}
use Rattle.model_base.specs.Outcomes.{needs}
use Rattle.model_base.specs.Versions.{accesses_of, is_writing}

-- whether the access is to this row and declares a kind that changes rows
abbrev pub is_write_to : ℕ → ℕ → Access → Bool
is_write_to table row access = is_writing access && ((access.key.table == table) && (access.key.row == row))

-- whether the statement declares a kind that changes rows on this row
abbrev pub declares_write : ℕ → ℕ → Statement → Bool
declares_write table row statement = list_any (is_write_to table row) (accesses_of statement.form)

-- the table of a deed, as its statement names it
abbrev pub table_of : DeedForm → ℕ
table_of (DeedForm.Grant kinds table grantees option) = table
table_of (DeedForm.Revoke kinds table grantees) = table

-- the table of a statement's deed, if it has one
abbrev pub deed_tables : Form → List ℕ
deed_tables (Form.Create table columns) = []
deed_tables (Form.Run accesses steps deed) = option_map_or (λ made. table_of made ∷ []) deed []
deed_tables (Form.Deed deed) = table_of deed ∷ []

-- whether the statement has a deed on the table
abbrev pub has_deed_on : ℕ → Statement → Bool
has_deed_on table statement = list_any (λ of_deed. of_deed == table) (deed_tables statement.form)

-- the numbers, each once, in the order in which they first appear
abbrev pub each_once : List ℕ → List ℕ
each_once [] = []
each_once (number ∷ numbers) = number ∷ filter (λ other. not (other == number)) (each_once numbers)

-- the tables of a statement's needs and of its deed, each once, in the order in which they first appear
abbrev pub tables_of : Form → List ℕ
tables_of form = each_once (map (λ (need : Need). need.table) (needs form) ++ deed_tables form)

-- the last place before this one, but not before the first of the batch, whose statement passes the test; else the base
abbrev pub last_before : (Statement → Bool) → List Statement → ℕ → ℕ → Reference
last_before test log first zero = Base
last_before test log first (suc place) =
    if not (nat_lt place first) && option_map_or test (slice_get log place) false
    then At place
    else last_before test log first place

-- the last place before this one that may change the row
abbrev pub writer : List Statement → ℕ → ℕ → Access → Reference
writer log first place access = last_before (declares_write access.key.table access.key.row) log first place

-- the last place before this one that has a deed on the table
abbrev pub prior : List Statement → ℕ → ℕ → ℕ → Reference
prior log first place table = last_before (has_deed_on table) log first place

-- what the statement at a place of the batch is referred to: for each access in order, and then for each of its tables
abbrev pub references_of : List Statement → ℕ → ℕ → Statement → List Reference
references_of log first place statement =
    map (writer log first place) (accesses_of statement.form) ++ map (prior log first place) (tables_of statement.form)

-- what a place of the batch that begins at the first place is referred to
abbrev pub references : List Statement → ℕ → ℕ → List Reference
references log first place = option_map_or (references_of log first place) (slice_get log place) []

-- what each place of the batch is referred to, in order
abbrev pub batch_references : List Statement → ℕ → ℕ → List (List Reference)
batch_references log first end = map (references log first) (range_with_len first (end - first))
