-- The tasks on a log: what is written by each, and which faults it may end with.
use Rattle.std.specs.Prelude.{◌≡◌, ◌≢◌, ◌≤◌, ℕ, Err, List, None, Result, Some, true}
use Rattle.line_io.specs.declared.fault.EngineFault.{EngineFault}
use Rattle.report.specs.Report.{IsReport}
use Rattle.audit_text.specs.Picture.{EndsBefore, IsPicture}
use Rattle.audit_text.specs.Places.{AreDenials, AreExplanations, LacksPlaceOf}
use Rattle.audit_text.specs.RowsBefore.{IsRows, LacksTable}
use Rattle.audit_text.specs.declared.fault.WorkFault.{WorkFault}
use Rattle.batched_text.specs.Settings.{are_within_limits}
use Rattle.privileges_text.specs.Questions.{IsHistory, IsHolders, LacksUser}
use Rattle.summary.specs.Summary.{IsSummary}
use Rattle.command_line.specs.Options.{place_named, rows_named}
use Rattle.command_line.specs.declared.options.TheConstants.{MOST_AHEAD}
use Rattle.command_line.specs.declared.work.Task.{Task}

-- the numbers of a task are within their limits
abbrev pub TaskIsWithin : Task → Type 0
TaskIsWithin (Task.InOrder threads) = threads ≤ MOST_AHEAD
TaskIsWithin (Task.InBatches settings arrival) = are_within_limits settings ≡ true
TaskIsWithin Task.Slow = Unit {0}
TaskIsWithin (Task.Explain which) = Unit {0}
TaskIsWithin (Task.Denials checked) = Unit {0}
TaskIsWithin (Task.Picture limit) = Unit {0}
TaskIsWithin (Task.List which) = Unit {0}
TaskIsWithin (Task.Holders which) = Unit {0}
TaskIsWithin (Task.History which) = Unit {0}
TaskIsWithin Task.Summary = Unit {0}

-- the text answers a task about the bytes of its log
abbrev pub AnswersTask : Task → List ℕ → List ℕ → Type 0
AnswersTask (Task.InOrder threads) input text = IsReport input text
AnswersTask (Task.InBatches settings arrival) input text = IsReport input text
AnswersTask Task.Slow input text = IsReport input text
AnswersTask (Task.Explain which) input text = AreExplanations input which.places.now which.is_checked text
AnswersTask (Task.Denials checked) input text = AreDenials input checked text
AnswersTask (Task.Picture limit) input text = IsPicture input (place_named limit) text
AnswersTask (Task.List which) input text = IsRows input (rows_named which).0 (place_named which.limit) text
AnswersTask (Task.Holders which) input text = IsHolders input which.kind which.table.now which.limit text
AnswersTask (Task.History which) input text = IsHistory input which.user.now which.kind which.table.now which.option text
AnswersTask Task.Summary input text = IsSummary input text

-- a fault says that something isn't there that was asked for
abbrev pub IsLack : WorkFault → Type 0
IsLack (WorkFault.NoSuchPlace places) = Unit {0}
IsLack WorkFault.NoSuchTable = Unit {0}
IsLack WorkFault.NoSuchUser = Unit {0}
IsLack (WorkFault.Run fault) = ⊥

-- what such a fault says of a log: that it has so many places and not the one that is asked for, or no such table, or no such user
abbrev pub SaysLack : (ℕ → Type 0) → Type 0 → Type 0 → WorkFault → Type 0
SaysLack place table user (WorkFault.NoSuchPlace places) = place places
SaysLack place table user WorkFault.NoSuchTable = table
SaysLack place table user WorkFault.NoSuchUser = user
SaysLack place table user (WorkFault.Run fault) = Unit {0}

-- where no place is asked for
abbrev pub NoneNamed : ℕ → Type 0
NoneNamed places = ⊥

-- the log hasn't what a task asks for, as such a fault says
abbrev pub TaskLacks : Task → WorkFault → List ℕ → Type 0
TaskLacks (Task.InOrder threads) fault input = SaysLack NoneNamed ⊥ ⊥ fault
TaskLacks (Task.InBatches settings arrival) fault input = SaysLack NoneNamed ⊥ ⊥ fault
TaskLacks Task.Slow fault input = SaysLack NoneNamed ⊥ ⊥ fault
TaskLacks (Task.Explain which) fault input = SaysLack (LacksPlaceOf input which.places.now) ⊥ ⊥ fault
TaskLacks (Task.Denials checked) fault input = SaysLack NoneNamed ⊥ ⊥ fault
TaskLacks (Task.Picture limit) fault input = SaysLack (EndsBefore input (place_named limit)) ⊥ ⊥ fault
TaskLacks (Task.List which) fault input =
    SaysLack (EndsBefore input (place_named which.limit)) (LacksTable input (rows_named which).0 (place_named which.limit)) ⊥ fault
TaskLacks (Task.Holders which) fault input =
    SaysLack (EndsBefore input which.limit) (LacksTable input (Some which.table.now) which.limit) ⊥ fault
TaskLacks (Task.History which) fault input =
    SaysLack NoneNamed (LacksTable input (Some which.table.now) None) (LacksUser input which.user.now) fault
TaskLacks Task.Summary fault input = SaysLack NoneNamed ⊥ ⊥ fault

-- the work didn't end for want of a place
abbrev pub LacksNoPlace : Result (Unit {0}) WorkFault → Type 0
LacksNoPlace ended = (places : ℕ) → ended ≢ Err (WorkFault.NoSuchPlace places)

-- nor for want of a table
abbrev pub LacksNoTable : Result (Unit {0}) WorkFault → Type 0
LacksNoTable ended = ended ≢ Err WorkFault.NoSuchTable

-- nor of a user
abbrev pub LacksNoUser : Result (Unit {0}) WorkFault → Type 0
LacksNoUser ended = ended ≢ Err WorkFault.NoSuchUser

-- nor of anything that is asked for
abbrev pub LacksNothing : Result (Unit {0}) WorkFault → Type 0
LacksNothing ended = LacksNoPlace ended × LacksNoTable ended × LacksNoUser ended

-- nor because a thread could not be started
abbrev pub StartsAll : Result (Unit {0}) WorkFault → Type 0
StartsAll ended = ended ≢ Err (WorkFault.Run EngineFault.Spawn)

-- a run never ends for want of anything that is asked for, only the questions that name a place, a table or a user for want of that, and only
-- several workers end a run because a thread could not be started
abbrev pub MayAnswer : Task → Result (Unit {0}) WorkFault → Type 0
MayAnswer (Task.InOrder threads) ended = LacksNothing ended × StartsAll ended
MayAnswer (Task.InBatches settings arrival) ended = LacksNothing ended × (settings.workers ≤ 1 → StartsAll ended)
MayAnswer Task.Slow ended = LacksNothing ended × StartsAll ended
MayAnswer (Task.Explain which) ended = LacksNoTable ended × LacksNoUser ended × StartsAll ended
MayAnswer (Task.Denials checked) ended = LacksNothing ended × StartsAll ended
MayAnswer (Task.Picture limit) ended = LacksNoTable ended × LacksNoUser ended × StartsAll ended
MayAnswer (Task.List which) ended = LacksNoUser ended × StartsAll ended
MayAnswer (Task.Holders which) ended = LacksNoUser ended × StartsAll ended
MayAnswer (Task.History which) ended = LacksNoPlace ended × StartsAll ended
MayAnswer Task.Summary ended = LacksNothing ended × StartsAll ended
