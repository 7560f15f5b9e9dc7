-- A log that is run batch by batch, between two batches.
use Rattle.std.specs.Prelude.{◌≡◌, ◌<◌, ◌≤◌, ◌+◌, ◌-◌, ℕ, List, MatchBool, Option, false, if◌then◌else◌, length, true}
use Rattle.std.specs.Io.KnownBytes.{prepend_known}
use Rattle.line_io.specs.Ahead.{ahead}
use Rattle.line_io.specs.declared.limits.TheConstants.{BUFFER_BYTES, MOST_GIVEN_BYTES}
use Rattle.model_base.specs.declared.limits.TheConstants.{MOST_PLACES}
use Rattle.sequencer.specs.Whole.{IsWhole}
use Rattle.engine.specs.Engine.{finished}
use Rattle.batched_text.specs.Reaching.{EndsTaking, HasTaken}
use Rattle.batched_text.specs.Sweeping.{IsSwept}
use Rattle.batched_text.specs.declared.quiet.QuietRun.{QuietRun}
use Rattle.batched_text.specs.declared.settings.TheConstants.{QUIET_BATCH}

-- all of the log so far is finished, and what was finished before its last batch was dropped, but not the place that it is read up to; no
-- rows before its end are kept; it goes on only where the log hasn't the place; and of the bytes that the reader gave some may be ahead
pub record IsBetween (run : QuietRun) (given : ℕ) : Type 0 where
  pub whole : IsWhole run.engine.log
  pub most : length run.engine.log.statements ≤ MOST_PLACES
  pub all : finished run.engine ≡ length run.engine.log.statements
  pub few : finished run.engine ≤ run.engine.dropped + QUIET_BATCH
  pub kept : run.engine.dropped ≤ run.last
  pub mark : run.engine.store.mark ≡ finished run.engine
  pub swept : IsSwept run.engine.store
  pub before : run.goes_on ≡ true → finished run.engine ≤ run.last
  pub bounded : 0 < length (ahead run.lines) → given ≤ MOST_GIVEN_BYTES + BUFFER_BYTES

-- the log so far is that of the lines of the input before what is still to come; where the run has ended, the log has the place that it was
-- read up to, or nothing is still to come
abbrev pub IsRunOf : Option (List ℕ) → Option (List ℕ) → QuietRun → Type 0
IsRunOf input left run =
    MatchBool run.goes_on (HasTaken false input (prepend_known (ahead run.lines) left) run.last run.engine.log)
    (EndsTaking input run.last run.engine.log)

-- how many batches are left at most
abbrev pub left_to_run : QuietRun → ℕ
left_to_run run = if run.goes_on then run.last + 2 - finished run.engine else 0
