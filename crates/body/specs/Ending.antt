-- How a body ended, as its meaning says it.
use Rattle.std.specs.Prelude.{◌≡◌, ℤ, List}
use Rattle.model_base.specs.Rows.{Rows}
use Rattle.model_base.specs.Body.{Ending, completed, aborted, undeclared}
use Rattle.model_base.specs.declared.statement.Form.{Form}
use Rattle.body.specs.declared.ending.BodyEnd.{BodyEnd}
use Rattle.body.specs.declared.window.Window.{Window}

-- the ending of a body that ended so, with these rows and outputs if it completed
abbrev pub ending_of : BodyEnd → Rows → List ℤ → Ending
ending_of BodyEnd.Completed rows outputs = completed rows outputs
ending_of (BodyEnd.Aborted step reason) rows outputs = aborted step reason
ending_of (BodyEnd.Undeclared step) rows outputs = undeclared step

-- a form that has no body leaves the window as it was
abbrev pub LeavesIdle : Form → Window → Window → Type 0
LeavesIdle (Form.Create table columns) old new = new ≡ old
LeavesIdle (Form.Run accesses steps deed) old new = Unit {0}
LeavesIdle (Form.Deed deed) old new = new ≡ old
