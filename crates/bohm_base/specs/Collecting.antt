-- What the lines of a log became, and the report of the log by that.
use Rattle.std.specs.Prelude.{◌≡◌, ◌≢◌, ℕ, ◌+◌, ◌==◌, ⊤, Bool, length, Result, Ok, Err, Option, Some, None, List, [], ◌∷◌, ◌++◌, take, Vec}
use Rattle.std.specs.declared.alloc.Global.{Global}
use Rattle.model_base.specs.declared.statement.Statement.{Statement}
use Rattle.line_io.specs.Lines.{lines_of}
use Rattle.line_io.specs.declared.limits.TheConstants.{KEPT_BYTES}
use Rattle.log_text.specs.Statement.{Sentence}
use Rattle.log_text.specs.declared.version.Version.{Version}
use Rattle.line_words.specs.declared.fault.LineFault.{LineFault}
use Rattle.sequencer.specs.Catalog.{Names, no_names}
use Rattle.sequencer.specs.Log.{Accepted}
use Rattle.sequencer.specs.Refusal.{refusal}
use Rattle.sequencer.specs.declared.refused.Refused.{Refused}
use Rattle.report.specs.Text.{LacksRoom, fault_word, refused_text, refused_word}
use Rattle.report.specs.Report.{AreParsedFrom, AreParsedLines, IsParsedLine, ParsedLine, the_heading, read, faulty, accepted, log_of, names_after, names_with, place_text}
use Rattle.bohm_base.specs.declared.collecting.LineOutcome.{LineOutcome}

-- what the line of a statement became, which the log takes or refuses
abbrev pub outcome_unless : Option Refused → LineOutcome
outcome_unless None = LineOutcome.Accepted
outcome_unless (Some refused) = LineOutcome.Refused refused

-- what a line became that was read so
abbrev pub line_outcome : Names → ParsedLine → LineOutcome
line_outcome names the_heading = LineOutcome.Heading
line_outcome names (read sentence) = outcome_unless (refusal names sentence)
line_outcome names (faulty fault) = LineOutcome.Faulty fault

-- what each of some lines became
abbrev pub line_outcomes : Names → List ParsedLine → List LineOutcome
line_outcomes names [] = []
line_outcomes names (reading ∷ readings) = line_outcome names reading ∷ line_outcomes (names_with names reading) readings

-- how many places of the log a line has
abbrev pub places_of : LineOutcome → ℕ
places_of LineOutcome.Heading = 0
places_of LineOutcome.Accepted = 1
places_of (LineOutcome.Faulty fault) = 0
places_of (LineOutcome.Refused refused) = 0

-- how many places some lines have
abbrev pub places_in : List LineOutcome → ℕ
places_in [] = 0
places_in (line ∷ lines) = places_of line + places_in lines

-- the report's line for a line of this number, which has this place if it has one; the heading has none
abbrev pub line_outcome_text : List Statement → Names → ℕ → ℕ → LineOutcome → List ℕ
line_outcome_text log names number place LineOutcome.Heading = []
line_outcome_text log names number place LineOutcome.Accepted = place_text log names place
line_outcome_text log names number place (LineOutcome.Faulty fault) = refused_text number (fault_word fault)
line_outcome_text log names number place (LineOutcome.Refused refused) = refused_text number (refused_word refused)

-- the report's lines from a line of this number on, before which there are this many places
abbrev pub report_text : List Statement → Names → ℕ → ℕ → List LineOutcome → List ℕ
report_text log names number place [] = []
report_text log names number place (line ∷ lines) =
    line_outcome_text log names number place line ++ report_text log names (number + 1) (place + places_of line) lines

-- the report of a log by what its lines became
abbrev pub log_text : Accepted → List LineOutcome → List ℕ
log_text log lines = report_text log.statements log.names 1 0 lines

-- a line of this version, of which at most `KEPT_BYTES` are known, is read so
abbrev pub ReadsAs : Bool → Version → List ℕ → ParsedLine → Type 0
ReadsAs first version known reading =
    (line : List ℕ) → known ≡ take KEPT_BYTES line → IsParsedLine first version line reading

-- how a line was read: as this statement, or as a faulty line
abbrev pub reading_by : {X : Type 0} → Result X LineFault → Sentence → ParsedLine
reading_by (Ok done) sentence = read sentence
reading_by (Err fault) sentence = faulty fault

-- the log after a line that was read so
abbrev pub with_reading : Accepted → ParsedLine → Accepted
with_reading log reading = record {
  names = names_with log.names reading;
  statements = log.statements ++ accepted log.names reading;
}

-- memory may be refused while a line is read and taken that becomes so: it has no fault, and the log does not refuse it
abbrev pub LineMayLackMemory : LineOutcome → Type 0
LineMayLackMemory LineOutcome.Heading = ⊥
LineMayLackMemory LineOutcome.Accepted = ⊤
LineMayLackMemory (LineOutcome.Faulty fault) = fault ≡ LineFault.NoMemory
LineMayLackMemory (LineOutcome.Refused refused) = ⊥

-- memory may be refused for the report's line for a line that became so: where it has no place, the line finds no room after the text
abbrev pub MayLackRoom : ℕ → Vec ℕ Global → LineOutcome → Type 0
MayLackRoom number text LineOutcome.Heading = ⊥
MayLackRoom number text LineOutcome.Accepted = ⊤
MayLackRoom number text (LineOutcome.Faulty fault) = fault ≢ LineFault.NoMemory → LacksRoom text (refused_text number (fault_word fault))
MayLackRoom number text (LineOutcome.Refused refused) = LacksRoom text (refused_text number (refused_word refused))

-- the log that some lines make, and what each of them became
pub record IsLogOf (readings : List ParsedLine) (log : Accepted) (lines : List LineOutcome) : Type 0 where
  pub names : log.names ≡ names_after no_names readings
  pub statements : log.statements ≡ log_of no_names readings
  pub each : lines ≡ line_outcomes no_names readings

-- the log of a text, and what each of its lines became
abbrev pub Collects : List ℕ → Accepted → List LineOutcome → Type 0
Collects input log lines =
    (readings : List ParsedLine) × (AreParsedLines (lines_of input) readings × IsLogOf readings log lines)

-- the lines before what is still to come are read so, if that is of the version that they leave
abbrev pub AreReadBefore : List ℕ → List ℕ → List ParsedLine → Type 0
AreReadBefore input rest earlier =
    (later : List ParsedLine)
    → AreParsedFrom (length earlier == 0) (names_after no_names earlier).version (lines_of rest) later
    → AreParsedLines (lines_of input) (earlier ++ later)

-- the log of the reader's lines up to where it is now, and what each of them became
abbrev pub CollectsSoFar : Option (List ℕ) → Option (List ℕ) → Accepted → List LineOutcome → Type 0
CollectsSoFar None rest log lines = ⊤
CollectsSoFar (Some input) None log lines = ⊥
CollectsSoFar (Some input) (Some rest) log lines =
    (earlier : List ParsedLine) × (AreReadBefore input rest earlier × IsLogOf earlier log lines)
