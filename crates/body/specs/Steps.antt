-- The steps of a body, and what they bound of its end.
use Rattle.std.specs.Prelude.{◌<◌, ◌≤◌, List, [], length}
use Rattle.std.specs.List.{sum_by}
use Rattle.model_base.specs.declared.statement.Form.{Form}
use Rattle.model_base.specs.declared.statement.Step.{Step}
use Rattle.model_base.specs.Body.{Ending, aborted, completed, undeclared}
use Rattle.body.specs.Premises.{outputs_of_step}

-- the steps of a form; only a RUN has any
abbrev pub steps_of : Form → List Step
steps_of (Form.Create table columns) = []
steps_of (Form.Run accesses steps deed) = steps
steps_of (Form.Deed deed) = []

-- a completed body has no more outputs than its steps make at most, and any other ended at one of its steps
abbrev pub EndsWithin : List Step → Ending → Type 0
EndsWithin steps (completed rows outputs) = length outputs ≤ sum_by outputs_of_step steps
EndsWithin steps (aborted step reason) = step < length steps
EndsWithin steps (undeclared step) = step < length steps
