-- The report of a text: one line for each of its lines, by the outcomes of the log that its accepted lines make.
use Rattle.std.specs.Prelude.{◌≡◌, ℕ, ◌+◌, ◌&&◌, Bool, true, false, bytes_eq, Option, Some, None, List, [], ◌∷◌, ◌++◌, slice_get}
use Rattle.model_base.specs.declared.statement.Statement.{Statement}
use Rattle.model_base.specs.declared.outcome.Outcome.{Outcome}
use Rattle.model_base.specs.Outcomes.{outcome}
use Rattle.line_io.specs.Lines.{lines_of}
use Rattle.log_text.specs.Statement.{Sentence, ReadsIn}
use Rattle.log_text.specs.Fault.{fault_in}
use Rattle.log_text.specs.Versions.{heading_line}
use Rattle.log_text.specs.declared.version.Version.{Version}
use Rattle.line_words.specs.declared.fault.LineFault.{LineFault}
use Rattle.sequencer.specs.Catalog.{Names, no_names, numbered, with_statement}
use Rattle.sequencer.specs.Refusal.{refusal}
use Rattle.sequencer.specs.declared.refused.Refused.{Refused}
use Rattle.report.specs.Text.{fault_word, outcome_text, refused_text, refused_word}

-- what a line is read as: the heading of a log of version 2, a statement, or a fault
pub data ParsedLine : Type 0 where
  the_heading : ParsedLine
  read : Sentence → ParsedLine
  faulty : LineFault → ParsedLine

-- whether a line is the heading of version 2; only the first line is
abbrev pub is_heading : Bool → List ℕ → Bool
is_heading first line = first && bytes_eq line heading_line

-- whether a line of this version is read so
abbrev pub IsParsedLine : Bool → Version → List ℕ → ParsedLine → Type 0
IsParsedLine first version line the_heading = is_heading first line ≡ true
IsParsedLine first version line (read sentence) = (is_heading first line ≡ false) × ReadsIn version line sentence
IsParsedLine first version line (faulty fault) = (is_heading first line ≡ false) × (fault_in version line ≡ Some fault)

-- the version after a line that was read so
abbrev pub version_with : Version → ParsedLine → Version
version_with version the_heading = Version.Two
version_with version (read sentence) = version
version_with version (faulty fault) = version

-- whether the lines, one after another, are read so, from one of this version on
abbrev pub AreParsedFrom : Bool → Version → List (List ℕ) → List ParsedLine → Type 0
AreParsedFrom first version [] [] = Unit {0}
AreParsedFrom first version [] (_ ∷ readings) = ⊥
AreParsedFrom first version (line ∷ lines) [] = ⊥
AreParsedFrom first version (line ∷ lines) (reading ∷ readings) =
    IsParsedLine first version line reading × AreParsedFrom false (version_with version reading) lines readings

-- whether the lines of a text, one after another, are read so
abbrev pub AreParsedLines : List (List ℕ) → List ParsedLine → Type 0
AreParsedLines lines readings = AreParsedFrom true Version.One lines readings

-- the names after a statement that the log takes, or refuses
abbrev pub names_if : Names → Sentence → Option Refused → Names
names_if names sentence None = with_statement names sentence
names_if names sentence (Some refused) = names

-- the names after a line that was read so
abbrev pub names_with : Names → ParsedLine → Names
names_with names the_heading = record names { version = Version.Two }
names_with names (read sentence) = names_if names sentence (refusal names sentence)
names_with names (faulty fault) = names

-- the names after some lines
abbrev pub names_after : Names → List ParsedLine → Names
names_after names [] = names
names_after names (reading ∷ readings) = names_after (names_with names reading) readings

-- a statement that the log takes, by number, or nothing where it is refused
abbrev pub statement_if : Names → Sentence → Option Refused → List Statement
statement_if names sentence None = numbered names sentence ∷ []
statement_if names sentence (Some refused) = []

-- the statement that a line adds to the log, if it adds one
abbrev pub accepted : Names → ParsedLine → List Statement
accepted names the_heading = []
accepted names (read sentence) = statement_if names sentence (refusal names sentence)
accepted names (faulty fault) = []

-- the log that the lines make
abbrev pub log_of : Names → List ParsedLine → List Statement
log_of names [] = []
log_of names (reading ∷ readings) = accepted names reading ++ log_of (names_with names reading) readings

-- the report's line for a place, by its statement and its outcome
abbrev pub text_of : List Statement → Names → ℕ → Option Statement → Option Outcome → List ℕ
text_of log names place (Some statement) (Some outcome) = outcome_text log names place statement.form outcome
text_of log names place (Some statement) None = []
text_of log names place None outcome = []

-- the report's line for a place of the log, which has these names
abbrev pub place_text : List Statement → Names → ℕ → List ℕ
place_text log names place = text_of log names place (slice_get log place) (outcome log place)

-- the report's line for a statement that the log takes as its next place, or refuses
abbrev pub text_if : List Statement → Names → ℕ → ℕ → Option Refused → List ℕ
text_if log names number place None = place_text log names place
text_if log names number place (Some refused) = refused_text number (refused_word refused)

-- the report's line for a line of this number, by the names after all lines and those before it; the heading has none
abbrev pub line_text : List Statement → Names → ℕ → Names → ParsedLine → List ℕ
line_text log all number names the_heading = []
line_text log all number names (read sentence) = text_if log all number names.places (refusal names sentence)
line_text log all number names (faulty fault) = refused_text number (fault_word fault)

-- the report's lines from a line of this number on
abbrev pub report_from : List Statement → Names → ℕ → Names → List ParsedLine → List ℕ
report_from log all number names [] = []
report_from log all number names (reading ∷ readings) =
    line_text log all number names reading ++ report_from log all (number + 1) (names_with names reading) readings

-- the report of lines that are read so
abbrev pub report_of : List ParsedLine → List ℕ
report_of readings = report_from (log_of no_names readings) (names_after no_names readings) 1 no_names readings

-- the report of a text
abbrev pub IsReport : List ℕ → List ℕ → Type 0
IsReport input text = (readings : List ParsedLine) × (AreParsedLines (lines_of input) readings × (text ≡ report_of readings))
