-- What a place answers, by the rows and the records of grants that it is shown. BOHM executes a transaction once the versions that it reads
-- are there, and it fills the versions that were placed for it (J. M. Faleiro and D. J. Abadi, "Rethinking Serializable Multiversion
-- Concurrency Control", PVLDB 8, 2015, section 3). That a place gives its outcome in the same way is this project's own.
use Rattle.std.specs.Prelude.{◌≡◌, ◌<◌, ◌≤◌, ℕ, All, List, [], length, slice_index_or}
use Rattle.std.specs.Option.{option_map_or}
use Rattle.model_base.specs.declared.deed.Deed.{Deed}
use Rattle.model_base.specs.declared.limits.TheConstants.{MOST_COLUMNS}
use Rattle.model_base.specs.declared.statement.Access.{Access}
use Rattle.model_base.specs.declared.statement.Statement.{Statement}
use Rattle.model_base.specs.DeedsLeft.{revocation_of}
use Rattle.model_base.specs.Outcomes.{needs}
use Rattle.model_base.specs.Privileges.{ended_by}
use Rattle.model_base.specs.Rows.{Rows}
use Rattle.model_base.specs.Versions.{accesses_of}
use Rattle.body.specs.declared.window.Window.{Window}
use Rattle.body.specs.Laws.{AreApart}
use Rattle.body.specs.Premises.{IsRunnable}
use Rattle.body.specs.Shape.{FormFits, HaveColumns}
use Rattle.body.specs.Shown.{WindowShows}
use Rattle.grants_base.specs.View.{View}
use Rattle.checker.specs.Missing.{Covers}

-- the columns of each table, by a list of them
abbrev pub columns_in : List ℕ → ℕ → ℕ
columns_in columns table = slice_index_or columns table 0

-- the rows of the window, at the accesses, are those of a map in which each row has the columns of its table
pub record IsShaped (columns : ℕ → ℕ) (accesses : List Access) (window : Window) : Type 0 where
  pub rows : Rows
  pub shows : WindowShows accesses window rows
  pub shape : HaveColumns columns rows

-- by what a statement is judged, in a log with these columns: its body fits a window, no two accesses name one key, its steps and tables
-- fit the columns, the window has such rows at its accesses and no output yet, and the view covers the tables of its needs
pub record IsInput (statement : Statement) (columns : List ℕ) (window : Window) (view : View) : Type 0 where
  pub runnable : IsRunnable statement
  pub apart : AreApart (accesses_of statement.form)
  pub fits : FormFits (columns_in columns) statement.form
  pub narrow : All (λ count. count ≤ MOST_COLUMNS) columns
  pub tables : All (λ (access : Access). access.key.table < length columns) (accesses_of statement.form)
  pub shaped : IsShaped (columns_in columns) (accesses_of statement.form) window
  pub fresh : window.outputs ≡ []
  pub covered : Covers view (needs statement.form)

-- the ranks of the records of the grants that the deeds of a place take out of force, after those of the past: a revocation ends some,
-- grants none
abbrev pub ended_by_deeds : List ℕ → List Deed → List Deed → List ℕ
ended_by_deeds owners past made = option_map_or (ended_by owners past) (revocation_of made) []
