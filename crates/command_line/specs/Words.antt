-- Which words of the command line are a command, and how the program ends: its exit status, and what it prints of a fault.
use Rattle.std.specs.Prelude.{◌≡◌, ◌≢◌, ◌⊎◌, ◌++◌, ◌==◌, [], ◌∷◌, ℕ, Bool, List, Option, None, Some, bytes_eq, codes, false, if◌then◌else◌, option_and_then, option_map, string_bytes}
use Rattle.std.specs.Option.{option_map_or}
use Rattle.std.specs.Str.{trim_end}
use Rattle.clap.specs.Words.{IsAmong, Kinds, Row, Text, first_of}
use Rattle.clap.specs.declared.error.kind.ErrorKind.{ErrorKind}
use Rattle.model_base.specs.declared.deed.Kind.{Kind}
use Rattle.audit_text.specs.Faults.{work_fault_text}
use Rattle.batched_text.specs.declared.settings.Settings.{Settings}
use Rattle.command_line.specs.Options.{has_flag, limit_among, progress_among, rows_among, rows_named}
use Rattle.command_line.specs.Places.{places_among}
use Rattle.command_line.specs.Privileges.{history_among, history_named, holders_among, holders_named}
use Rattle.command_line.specs.Ways.{IsWithin, way_among}
use Rattle.command_line.specs.declared.command_words.Command.{Command}
use Rattle.command_line.specs.declared.command_words.ProgramFault.{ProgramFault}
use Rattle.command_line.specs.declared.command_words.Source.{Source}
use Rattle.command_line.specs.declared.command_words.Stream.{Stream}
use Rattle.command_line.specs.declared.command_words.Usage.{Usage}
use Rattle.command_line.specs.declared.command_words.Verb.{Verb}
use Rattle.command_line.specs.declared.options.Choice.{Choice}
use Rattle.command_line.specs.declared.options.Limit.{Limit}
use Rattle.command_line.specs.declared.options.Progress.{Progress}
use Rattle.command_line.specs.declared.options.TheConstants.{MOST_PLACE}
use Rattle.command_line.specs.declared.options.Way.{Way}

-- whether an error of this kind is given so: help and the version as help, any other as a fault of the words
abbrev pub TellsError : Usage → ErrorKind → Type 0
TellsError (Usage.Help text) kind = (kind ≡ ErrorKind.DisplayHelp) ⊎ (kind ≡ ErrorKind.DisplayVersion)
TellsError (Usage.Fault text) kind = (kind ≢ ErrorKind.DisplayHelp) × (kind ≢ ErrorKind.DisplayVersion)
TellsError Usage.NotUtf8 kind = ⊥
TellsError (Usage.Misused verb) kind = ⊥
TellsError Usage.NoMemory kind = Unit {0}

-- out of memory, or one of these kinds of error, given so
abbrev pub TellsOneOf : Kinds → Usage → Type 0
TellsOneOf kinds usage = (usage ≡ Usage.NoMemory) ⊎ ((kind : ErrorKind) × (IsAmong kind kinds × TellsError usage kind))

-- 1 for settings of `run` that don't go together, and 2 for other words that don't
abbrev pub misuse_status : Verb → ℕ
misuse_status Verb.Run = 1
misuse_status Verb.Serial = 1
misuse_status Verb.Explain = 2
misuse_status Verb.Grants = 2
misuse_status Verb.Rows = 2
misuse_status Verb.Holders = 2
misuse_status Verb.History = 2
misuse_status Verb.Summary = 1

-- 0 where help or the version was asked for, 2 for words that aren't text, that `clap` refuses or that don't go together, and 1 for any
-- other fault
abbrev pub status_of : ProgramFault → ℕ
status_of (ProgramFault.Usage (Usage.Fault text)) = 2
status_of (ProgramFault.Usage (Usage.Help text)) = 0
status_of (ProgramFault.Usage Usage.NotUtf8) = 2
status_of (ProgramFault.Usage (Usage.Misused verb)) = misuse_status verb
status_of (ProgramFault.Usage Usage.NoMemory) = 1
status_of (ProgramFault.Open text) = 1
status_of (ProgramFault.Work fault) = 1

-- 0 is of what goes to standard output, and any other status of what goes to standard error
abbrev pub stream_of : ProgramFault → Stream
stream_of fault = if status_of fault == 0 then Stream.Output else Stream.Error

-- what the words of a subcommand have to be, where they weren't
abbrev pub misuse_text : Verb → List ℕ
misuse_text Verb.Run = codes "bad settings"
misuse_text Verb.Serial = codes "bad settings"
misuse_text Verb.Explain = codes "explain has one PLACE or more, or --denied"
misuse_text Verb.Grants = codes "PLACE is 0 to 4294967294"
misuse_text Verb.Rows = codes "a word that begins with a digit is PLACE, 0 to 4294967295"
misuse_text Verb.Holders = codes "KIND is READ, INSERT, UPDATE or DELETE"
misuse_text Verb.History = codes "KIND is READ, INSERT, UPDATE or DELETE, and the last word OPTION"
misuse_text Verb.Summary = codes "bad settings"

-- the text of a fault, without white space at its end
abbrev pub message_of : ProgramFault → List ℕ
message_of (ProgramFault.Usage (Usage.Fault text)) = trim_end (string_bytes text)
message_of (ProgramFault.Usage (Usage.Help text)) = trim_end (string_bytes text)
message_of (ProgramFault.Usage Usage.NotUtf8) = codes "bohm: an argument isn't valid UTF-8"
message_of (ProgramFault.Usage (Usage.Misused verb)) = codes "bohm: " ++ misuse_text verb
message_of (ProgramFault.Usage Usage.NoMemory) = codes "bohm: out of memory"
message_of (ProgramFault.Open text) = string_bytes text
message_of (ProgramFault.Work fault) = codes "bohm: " ++ work_fault_text fault

-- the subcommand of a name
abbrev pub verb_named : Text → Verb
verb_named name =
    if bytes_eq name (codes "serial") then Verb.Serial
    else (if bytes_eq name (codes "explain") then Verb.Explain
    else (if bytes_eq name (codes "grants") then Verb.Grants
    else (if bytes_eq name (codes "rows") then Verb.Rows
    else (if bytes_eq name (codes "holders") then Verb.Holders
    else (if bytes_eq name (codes "history") then Verb.History
    else (if bytes_eq name (codes "summary") then Verb.Summary
    else Verb.Run))))))

-- the path of a log that isn't standard input
abbrev pub path_of : Source → Option Text
path_of Source.StandardInput = None
path_of (Source.File path) = Some path.now

-- the path that a word for a file names: without a word, and by `-`, none
abbrev pub path_named : Option Text → Option Text
path_named word = option_and_then (λ path. if bytes_eq path (codes "-") then None else Some path) word

-- what is asked for, over the log of a path, or of standard input without one
pub data Asked : Type 0 where
  run : Option Text → Settings → Choice → Asked
  serial : Option Text → Asked
  explain : Option Text → Bool → List ℕ → Asked
  denials : Option Text → Bool → Asked
  grants : Option Text → Limit → Asked
  rows : Option Text → Option Text × Limit → Asked
  holders : Option Text → Kind × Text × Option ℕ → Asked
  history : Option Text → Text × Kind × Text × Bool → Asked
  summary : Option Text → Asked

-- what `explain` asks for: the explanations of one place or more, or of those that were denied, and not both
abbrev pub explained_by : Option Text → Bool → Bool → Option (List ℕ) → Option Asked
explained_by path checked denied None = None
explained_by path checked denied (Some []) = if denied then Some (denials path checked) else None
explained_by path checked denied (Some (place ∷ places)) = if denied then None else Some (explain path checked (place ∷ places))

-- what a subcommand asks for with these words, if they go together
abbrev pub asked_by : Verb → Option Text → List Row → Option Asked
asked_by Verb.Run path words = option_map (λ (way : Way). run path way.settings way.ahead) (way_among words)
asked_by Verb.Serial path words = Some (serial path)
asked_by Verb.Explain path words =
    explained_by path (has_flag (codes "check") words) (has_flag (codes "denied") words) (places_among words)
asked_by Verb.Grants path words = option_map (grants path) (limit_among MOST_PLACE words)
asked_by Verb.Rows path words = option_map (rows path) (rows_among words)
asked_by Verb.Holders path words = option_map (holders path) (holders_among words)
asked_by Verb.History path words = option_map (history path) (history_among words)
asked_by Verb.Summary path words = Some (summary path)

-- what the words of a subcommand that was entered ask for
abbrev pub asked_in : Option (Text × List Row) → Option Asked
asked_in entered =
    option_and_then (λ found. asked_by (verb_named found.0) (path_named (first_of (codes "FILE") found.1)) found.1) entered

-- whether progress is shown, by the words of a subcommand that was entered
abbrev pub progress_in : Option (Text × List Row) → Progress
progress_in entered = option_map_or (λ found. progress_among found.1) entered Progress.Usual

-- whether lines are counted by their words, by the flag of a subcommand that was entered
abbrev pub is_summarized : Option (Text × List Row) → Bool
is_summarized entered = option_map_or (λ found. has_flag (codes "summary") found.1) entered false

-- what a command asks for
abbrev pub asked : Command → Asked
asked (Command.Run source settings ahead) = run (path_of source) settings ahead
asked (Command.Serial source) = serial (path_of source)
asked (Command.Explain source places checked) = explain (path_of source) checked places.items
asked (Command.Denials source checked) = denials (path_of source) checked
asked (Command.Grants source limit) = grants (path_of source) limit
asked (Command.Rows source which) = rows (path_of source) (rows_named which)
asked (Command.Holders source which) = holders (path_of source) (holders_named which)
asked (Command.History source which) = history (path_of source) (history_named which)
asked (Command.Summary source) = summary (path_of source)

-- the command is what the words of a subcommand ask for
abbrev pub Asks : Command → Option (Text × List Row) → Type 0
Asks command entered = asked_in entered ≡ Some (asked command)

-- the subcommand that was entered
abbrev pub verb_in : Option (Text × List Row) → Verb
verb_in entered = option_map_or (λ found. verb_named found.0) entered Verb.Run

-- the words of the subcommand that was entered don't go together, and the fault says which subcommand that is
abbrev pub IsMisuse : Usage → Option (Text × List Row) → Type 0
IsMisuse usage entered = (usage ≡ Usage.Misused (verb_in entered)) × (asked_in entered ≡ None)

-- the numbers of a run are within their limits
abbrev pub IsWithinLimits : Command → Type 0
IsWithinLimits (Command.Run source settings ahead) = IsWithin (record { settings = settings; ahead = ahead })
IsWithinLimits (Command.Serial source) = Unit {0}
IsWithinLimits (Command.Explain source places checked) = Unit {0}
IsWithinLimits (Command.Denials source checked) = Unit {0}
IsWithinLimits (Command.Grants source limit) = Unit {0}
IsWithinLimits (Command.Rows source which) = Unit {0}
IsWithinLimits (Command.Holders source which) = Unit {0}
IsWithinLimits (Command.History source which) = Unit {0}
IsWithinLimits (Command.Summary source) = Unit {0}
