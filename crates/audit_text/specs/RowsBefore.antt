-- The rows before a place of the text of a log.
use Rattle.std.specs.Prelude.{◌≡◌, ◌++◌, [], zero, suc, ℕ, List, None, Option, Some, length}
use Rattle.line_io.specs.Lines.{lines_of}
use Rattle.sequencer.specs.Catalog.{no_names}
use Rattle.sequencer.specs.Log.{Accepted, empty_log}
use Rattle.report.specs.Report.{AreParsedLines, ParsedLine, log_of, names_after}
use Rattle.batched_text.specs.Reaching.{IsLogUpTo}
use Rattle.audit_text.specs.Picture.{place_before}
use Rattle.audit_text.specs.RowsText.{HasNoTable, ListsRows}

-- the log is what stands before the place of the log that the lines of the input make: the first lines make it, and it has just the places
-- before that one; without a place all lines make it
pub record IsLogBefore (input : List ℕ) (limit : Option ℕ) (log : Accepted) : Type 0 where
  pub front : List (List ℕ)
  pub rest : List (List ℕ)
  pub lines : lines_of input ≡ front ++ rest
  pub readings : List ParsedLine
  pub read : AreParsedLines front readings
  pub names : log.names ≡ names_after no_names readings
  pub statements : log.statements ≡ log_of no_names readings
  pub places : length log.statements ≡ place_before log.statements limit
  pub whole : limit ≡ None → rest ≡ []

-- the text has the rows before the place of the log that the lines of the input make, of the table of the name or of all
abbrev pub IsRows : List ℕ → Option (List ℕ) → Option ℕ → List ℕ → Type 0
IsRows input name limit text = (log : Accepted) × (IsLogBefore input limit log × ListsRows log name text)

-- no statement before the place creates a table of the name
abbrev pub LacksTable : List ℕ → Option (List ℕ) → Option ℕ → Type 0
LacksTable input name limit = (log : Accepted) × (IsLogBefore input limit log × HasNoTable log.names.tables name)

-- the log that is run to know what stands before a place: it ends with the place before that one
abbrev pub IsRunBefore : Option (List ℕ) → Option ℕ → Accepted → Type 0
IsRunBefore input None log = IsLogUpTo input None log
IsRunBefore input (Some zero) log = log ≡ empty_log
IsRunBefore input (Some (suc last)) log = IsLogUpTo input (Some last) log
