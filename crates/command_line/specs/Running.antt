-- How the work on a log ends.
use Rattle.std.specs.Prelude.{◌≡◌, ◌≤◌, ◌⊎◌, ℕ, Bool, Err, IsSome, List, MatchBool, None, Ok, Option, Result, Some}
use Rattle.line_io.specs.declared.fault.EngineFault.{EngineFault}
use Rattle.report.specs.Report.{IsReport}
use Rattle.audit_text.specs.Picture.{EndsBefore, IsPicture}
use Rattle.audit_text.specs.Places.{AreDenials, AreExplanations, LacksPlaceOf}
use Rattle.audit_text.specs.RowsBefore.{IsRows, LacksTable}
use Rattle.audit_text.specs.declared.places.PlacesAsked.{PlacesAsked}
use Rattle.audit_text.specs.declared.fault.WorkFault.{WorkFault}
use Rattle.batched_text.specs.declared.settings.Arrival.{Arrival}
use Rattle.privileges_text.specs.Questions.{IsHistory, IsHolders, LacksUser}
use Rattle.summary.specs.Summary.{IsSummary}
use Rattle.command_line.specs.Options.{IfGiven, place_named, rows_named}
use Rattle.command_line.specs.Tasks.{NoneNamed, SaysLack}
use Rattle.command_line.specs.Ways.{is_alone}
use Rattle.command_line.specs.Words.{path_of}
use Rattle.command_line.specs.declared.command_words.Command.{Command}
use Rattle.command_line.specs.declared.command_words.ProgramFault.{ProgramFault}
use Rattle.command_line.specs.declared.options.Choice.{Choice}
use Rattle.command_line.specs.declared.options.TheConstants.{MOST_AHEAD}
use Rattle.command_line.specs.declared.work.Task.{Task}

-- the path of the log that a command names, or none where that is standard input
abbrev pub path_in : Command → Option (List ℕ)
path_in (Command.Run source settings ahead) = path_of source
path_in (Command.Serial source) = path_of source
path_in (Command.Explain source places checked) = path_of source
path_in (Command.Denials source checked) = path_of source
path_in (Command.Grants source limit) = path_of source
path_in (Command.Rows source which) = path_of source
path_in (Command.Holders source which) = path_of source
path_in (Command.History source which) = path_of source
path_in (Command.Summary source) = path_of source

-- the text answers a command about the bytes of its log
abbrev pub AnswersCommand : Command → List ℕ → List ℕ → Type 0
AnswersCommand (Command.Run source settings ahead) input text = IsReport input text
AnswersCommand (Command.Serial source) input text = IsReport input text
AnswersCommand (Command.Explain source places checked) input text = AreExplanations input places.items checked text
AnswersCommand (Command.Denials source checked) input text = AreDenials input checked text
AnswersCommand (Command.Grants source limit) input text = IsPicture input (place_named limit) text
AnswersCommand (Command.Rows source which) input text = IsRows input (rows_named which).0 (place_named which.limit) text
AnswersCommand (Command.Holders source which) input text = IsHolders input which.kind which.table.now which.limit text
AnswersCommand (Command.History source which) input text = IsHistory input which.user.now which.kind which.table.now which.option text
AnswersCommand (Command.Summary source) input text = IsSummary input text

-- the log hasn't what a command asks for, as a fault says
abbrev pub CommandLacks : Command → WorkFault → List ℕ → Type 0
CommandLacks (Command.Run source settings ahead) fault input = SaysLack NoneNamed ⊥ ⊥ fault
CommandLacks (Command.Serial source) fault input = SaysLack NoneNamed ⊥ ⊥ fault
CommandLacks (Command.Explain source places checked) fault input = SaysLack (LacksPlaceOf input places.items) ⊥ ⊥ fault
CommandLacks (Command.Denials source checked) fault input = SaysLack NoneNamed ⊥ ⊥ fault
CommandLacks (Command.Grants source limit) fault input = SaysLack (EndsBefore input (place_named limit)) ⊥ ⊥ fault
CommandLacks (Command.Rows source which) fault input =
    SaysLack (EndsBefore input (place_named which.limit)) (LacksTable input (rows_named which).0 (place_named which.limit)) ⊥ fault
CommandLacks (Command.Holders source which) fault input =
    SaysLack (EndsBefore input which.limit) (LacksTable input (Some which.table.now) which.limit) ⊥ fault
CommandLacks (Command.History source which) fault input =
    SaysLack NoneNamed (LacksTable input (Some which.table.now) None) (LacksUser input which.user.now) fault
CommandLacks (Command.Summary source) fault input = SaysLack NoneNamed ⊥ ⊥ fault

-- the end of a command's work, or of that on its log
abbrev pub EndOf : Type 0 → Type 0
EndOf Fault = Result (Unit {0}) Fault

-- what the work on a log may answer
abbrev pub WorkAnswers : Type 1
WorkAnswers = EndOf WorkFault → Type 0

-- the end of a command by that of the work on its log
abbrev pub of_work : EndOf WorkFault → EndOf ProgramFault
of_work (Ok value) = Ok value
of_work (Err fault) = Err (ProgramFault.Work fault)

-- a run in order with the number of threads that is given, or else with some number within the limits
abbrev pub IsInOrder : Choice → Task → Type 0
IsInOrder ahead task =
    (threads : ℕ) × ((threads ≤ MOST_AHEAD) × (IfGiven ahead (λ given. threads ≡ given) × (task ≡ Task.InOrder threads)))

-- the explanations of these places
abbrev pub AreOfPlaces : List ℕ → Bool → Task → Type 0
AreOfPlaces places checked task =
    (which : PlacesAsked) × ((which.places.now ≡ places) × ((which.is_checked ≡ checked) × (task ≡ Task.Explain which)))

-- the task that a command asks for, of a log whose bytes arrive so: one worker and one partition run it in order, and any other settings in
-- batches
abbrev pub IsTaskOf : Arrival → Command → Task → Type 0
IsTaskOf arrival (Command.Run source settings ahead) task =
    MatchBool (is_alone settings) (IsInOrder ahead task) (task ≡ Task.InBatches settings arrival)
IsTaskOf arrival (Command.Serial source) task = task ≡ Task.Slow
IsTaskOf arrival (Command.Explain source places checked) task = AreOfPlaces places.items checked task
IsTaskOf arrival (Command.Denials source checked) task = task ≡ Task.Denials checked
IsTaskOf arrival (Command.Grants source limit) task = task ≡ Task.Picture limit
IsTaskOf arrival (Command.Rows source which) task = task ≡ Task.List which
IsTaskOf arrival (Command.Holders source which) task = task ≡ Task.Holders which
IsTaskOf arrival (Command.History source which) task = task ≡ Task.History which
IsTaskOf arrival (Command.Summary source) task = task ≡ Task.Summary

-- the fault says that a file can't be opened
abbrev pub IsOpenFault : ProgramFault → Type 0
IsOpenFault (ProgramFault.Open text) = Unit {0}
IsOpenFault (ProgramFault.Usage usage) = ⊥
IsOpenFault (ProgramFault.Work fault) = ⊥

-- it says so, or that memory ran out for the text that would
abbrev pub IsUnopened : ProgramFault → Type 0
IsUnopened fault = IsOpenFault fault ⊎ (fault ≡ ProgramFault.Work (WorkFault.Run EngineFault.NoMemory))

-- the command was done by the task that it asks for, of a log whose bytes arrive as its source's may, and ended as that did, or its file
-- couldn't be opened
abbrev pub DoesCommand : (Task → WorkAnswers) → (Arrival → Type 0) → Command → EndOf ProgramFault → Type 0
DoesCommand answers arrives command ended =
    ((arrival : Arrival) × (arrives arrival × ((task : Task) × (IsTaskOf arrival command task
    × ((answer : EndOf WorkFault) × (answers task answer × (ended ≡ of_work answer)))))))
    ⊎ (IsSome (path_in command) × (fault : ProgramFault) × (IsUnopened fault × (ended ≡ Err fault)))
