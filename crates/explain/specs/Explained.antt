-- Why a place of a log was admitted or denied: how its user held what the statement needs, or lost it, by the deeds before the
-- place. A user holds a privilege as the table's owner or by a chain of grants from there, after P. P. Griffiths and B. W. Wade,
-- "An Authorization Mechanism for a Relational Database System", ACM Transactions on Database Systems 1 (1976).
use Rattle.std.specs.Prelude.{◌≡◌, ◌<◌, ◌↔◌, ℕ, List, Option, Some, All, slice_get, true}
use Rattle.std.specs.Option.{option_map}
use Rattle.model_base.specs.declared.statement.Statement.{Statement}
use Rattle.model_base.specs.Admitted.{IsPrivileged}
use Rattle.model_base.specs.Outcomes.{deeds_before, needs, owners}
use Rattle.model_base.specs.Privileges.{holds}
use Rattle.model_base.specs.RecordGrantees.{WereGranted}
use Rattle.explain.specs.declared.line.Line.{Line}
use Rattle.explain.specs.ExplainedNeeds.{AreSound, explaining_lines, tells_held}
use Rattle.explain.specs.Lines.{ranks_shown}

-- the lines that explain a statement at a place of the log
abbrev pub lines_for : List Statement → ℕ → Statement → List Line
lines_for log place statement = explaining_lines (owners log) (deeds_before log place) place statement.user (needs statement.form)

-- the lines that explain a place of the log, if it has the place
abbrev pub explained : List Statement → ℕ → Option (List Line)
explained log place = option_map (lines_for log place) (slice_get log place)

-- the log has the place, and the lines are sound for what its statement needs
pub record IsExplainedBy (log : List Statement) (place : ℕ) (lines : List Line) : Type 0 where
  pub statement : Statement
  pub there : slice_get log place ≡ Some statement
  pub sound : AreSound (owners log) (deeds_before log place) place statement.user (needs statement.form) lines

-- the line shows its need as held exactly if the user holds it by the deeds before the place
abbrev pub TellsHolding : List Statement → ℕ → ℕ → Line → Type 0
TellsHolding log place user line = tells_held line.shown ≡ holds (owners log) (deeds_before log place) user line.need

-- it does so exactly if the user has the privilege by these deeds
abbrev pub TellsPrivilege : List Statement → ℕ → ℕ → Line → Type 0
TellsPrivilege log place user line =
    (tells_held line.shown ≡ true) ↔ IsPrivileged (owners log) (deeds_before log place) user line.need

-- the lines name no table but the first this many
abbrev pub LinesAreNamed : ℕ → List Line → Type 0
LinesAreNamed tables lines = All (λ (line : Line). line.need.table < tables) lines

-- the records that the lines show are of grants that were made before the place
abbrev pub LinesAreGranted : List Statement → ℕ → List Line → Type 0
LinesAreGranted log place lines = All (λ (line : Line). WereGranted log place (ranks_shown line.shown)) lines
