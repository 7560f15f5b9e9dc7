-- Which bodies a window can hold.
use Rattle.std.specs.Prelude.{ℕ, ◌≤◌, List, length, All}
use Rattle.std.specs.List.{sum_by}
use Rattle.model_base.specs.declared.limits.TheConstants.{MOST_ACCESSES, MOST_COLUMNS, MOST_OUTPUTS}
use Rattle.model_base.specs.declared.statement.Access.{Access}
use Rattle.model_base.specs.declared.statement.Form.{Form}
use Rattle.model_base.specs.declared.statement.Statement.{Statement}
use Rattle.model_base.specs.declared.statement.Step.{Step}

-- how many outputs the step makes at most
abbrev pub outputs_of_step : Step → ℕ
outputs_of_step (Step.Out of) = 1
outputs_of_step _ = 0

-- a row that the step inserts has at most `MOST_COLUMNS` numbers
abbrev pub IsNarrow : Step → Type 0
IsNarrow (Step.Insert table row from) = length from ≤ MOST_COLUMNS
IsNarrow _ = Unit {0}

-- a window has a place for each access, a column for each inserted number, and room for each output
pub record FitsWindow (accesses : List Access) (steps : List Step) : Type 0 where
  pub places : length accesses ≤ MOST_ACCESSES
  pub columns : All IsNarrow steps
  pub outputs : sum_by outputs_of_step steps ≤ MOST_OUTPUTS

-- the body of the form, if it has one, fits a window
abbrev pub HasFittingBody : Form → Type 0
HasFittingBody (Form.Create table columns) = Unit {0}
HasFittingBody (Form.Run accesses steps deed) = FitsWindow accesses steps
HasFittingBody (Form.Deed deed) = Unit {0}

-- the statement's body, if it has one, fits a window
abbrev pub IsRunnable : Statement → Type 0
IsRunnable statement = HasFittingBody statement.form
