-- What an outcome keeps to of its statement's body.
use Rattle.std.specs.Prelude.{◌≡◌, ◌<◌, ◌≤◌, ◌^◌, ℕ, All, List, Some, length, slice_get}
use Rattle.model_base.specs.declared.outcome.Outcome.{Outcome}
use Rattle.model_base.specs.declared.statement.Form.{Form}
use Rattle.model_base.specs.declared.statement.Statement.{Statement}
use Rattle.model_base.specs.Outcomes.{outcome}
use Rattle.body.specs.Premises.{IsRunnable}
use Rattle.body.specs.Shape.{FormFits}
use Rattle.body.specs.Steps.{steps_of}
use Rattle.own_words.specs.Words.{outputs_of}

-- for each outcome at a place of a log whose statements fit the columns of their tables, where the body of its statement fits a window and
-- the numbers of the statement's steps and its place have 64 bits, as in every log
abbrev pub ForOutcomes : ((ℕ → ℕ) → List Statement → ℕ → Statement → Outcome → Type 0) → Type 0
ForOutcomes Holds =
    (columns : ℕ → ℕ) (log : List Statement) (place : ℕ) (statement : Statement) (found : Outcome)
    → slice_get log place ≡ Some statement → outcome log place ≡ Some found
    → All (λ (one : Statement). FormFits columns one.form) log → IsRunnable statement
    → length (steps_of statement.form) < 2 ^ 64 → place < 2 ^ 64
    → Holds columns log place statement found

-- what is done has no more outputs than the statement has OUT steps, and what was aborted or undeclared was so at one of its
-- steps
abbrev pub KeepsToSteps : Form → Outcome → Type 0
KeepsToSteps form (Outcome.Done outputs deed) = length outputs ≤ outputs_of form
KeepsToSteps form Outcome.Created = Unit {0}
KeepsToSteps form (Outcome.Denied need cause) = Unit {0}
KeepsToSteps form (Outcome.Aborted step reason) = step < length (steps_of form)
KeepsToSteps form (Outcome.Undeclared step) = step < length (steps_of form)
