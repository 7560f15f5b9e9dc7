-- What a log has at a place.
use Rattle.std.specs.Prelude.{◌≡◌, ℕ, Some, slice_get}
use Rattle.model_base.specs.Outcomes.{outcome}
use Rattle.model_base.specs.declared.outcome.Outcome.{Outcome}
use Rattle.model_base.specs.declared.statement.Statement.{Statement}
use Rattle.sequencer.specs.Log.{Accepted}

-- a place of the log has this statement and this outcome
pub record IsFinishedAs (log : Accepted) (place : ℕ) (statement : Statement) (found : Outcome) : Type 0 where
  pub there : slice_get log.statements place ≡ Some statement
  pub came : outcome log.statements place ≡ Some found
