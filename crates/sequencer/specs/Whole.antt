-- What holds of each log: what its statements are, and the names after them.
use Rattle.std.specs.Prelude.{◌≡◌, ℕ, ◌<◌, ◌≤◌, All, length, slice_index_or}
use Rattle.model_base.specs.declared.limits.TheConstants.{MOST_COLUMNS, MOST_STEPS}
use Rattle.model_base.specs.declared.deed.Grantee.{Grantee}
use Rattle.model_base.specs.declared.deed.Grantee.TheVariants.{Public, User}
use Rattle.model_base.specs.declared.deed.Need.{Need}
use Rattle.model_base.specs.declared.statement.Access.{Access}
use Rattle.model_base.specs.declared.statement.Form.{Form}
use Rattle.model_base.specs.declared.statement.Statement.{Statement}
use Rattle.model_base.specs.declared.statement.Step.{Step}
use Rattle.model_base.specs.Outcomes.{deeds_of, needs, owners}
use Rattle.model_base.specs.RecordGrantees.{grantees_in}
use Rattle.model_base.specs.References.{deed_tables, tables_of}
use Rattle.model_base.specs.Versions.{accesses_of}
use Rattle.body.specs.Laws.{AreApart}
use Rattle.body.specs.Premises.{IsRunnable}
use Rattle.body.specs.Shape.{FormFits}
use Rattle.body.specs.Steps.{steps_of}
use Rattle.sequencer.specs.Catalog.{Names}
use Rattle.sequencer.specs.Log.{Accepted}

-- how many columns each table has
abbrev pub columns_by : Names → ℕ → ℕ
columns_by names table = slice_index_or names.columns table 0

-- a form that names a deed makes one at least, at any place and by any user
abbrev pub MakesDeeds : Form → Type 0
MakesDeeds form = (place user : ℕ) → length (deed_tables form) ≤ length (deeds_of place user form)

-- a grantee is PUBLIC or one of the first this many users
abbrev pub IsKnownTo : ℕ → Grantee → Type 0
IsKnownTo users (User user) = user < users
IsKnownTo users Public = Unit {0}

-- what an accepted statement is: its body fits a window and has at most `MOST_STEPS` steps, its constants have 64 bits and its inserted
-- rows the columns of their tables, what it names is of known tables, no two of its accesses name one row, a deed that it names
-- is of a kind and to somebody, and its grantees are known users or PUBLIC
pub record IsAccepted (names : Names) (statement : Statement) : Type 0 where
  pub runnable : IsRunnable statement
  pub steps : length (steps_of statement.form) ≤ MOST_STEPS
  pub fits : FormFits (columns_by names) statement.form
  pub needs : All (λ (need : Need). need.table < length names.tables) (needs statement.form)
  pub accesses : All (λ (access : Access). access.key.table < length names.tables) (accesses_of statement.form)
  pub tables : All (λ table. table < length names.tables) (tables_of statement.form)
  pub apart : AreApart (accesses_of statement.form)
  pub deeds : MakesDeeds statement.form
  pub grantees : All (IsKnownTo (length names.users)) (grantees_in statement.form)

-- what holds of each log
pub record IsWhole (log : Accepted) : Type 0 where
  pub places : log.names.places ≡ length log.statements
  pub owners : log.names.owners ≡ owners log.statements
  pub owned : length log.names.owners ≡ length log.names.tables
  pub columns : length log.names.columns ≡ length log.names.tables
  pub narrow : All (λ count. count ≤ MOST_COLUMNS) log.names.columns
  pub taken : All (IsAccepted log.names) log.statements

-- a row that the step inserts has a column
abbrev pub IsFilled : Step → Type 0
IsFilled (Step.Insert table row from) = 1 ≤ length from
IsFilled _ = Unit {0}

-- so has each row that the form's steps insert
abbrev pub HasFilledRows : Form → Type 0
HasFilledRows (Form.Create table columns) = Unit {0}
HasFilledRows (Form.Run accesses steps deed) = All IsFilled steps
HasFilledRows (Form.Deed deed) = Unit {0}

-- what holds of each log, and that no row without columns is inserted, so that each is of a table that is there already
pub record IsKept (log : Accepted) : Type 0 where
  pub whole : IsWhole log
  pub filled : All (λ (statement : Statement). HasFilledRows statement.form) log.statements
