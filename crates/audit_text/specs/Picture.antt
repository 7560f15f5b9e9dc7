-- The picture of the grants before a place of the text of a log.
use Rattle.std.specs.Prelude.{◌≡◌, ◌<◌, ℕ, List, Option, length, unwrap_or}
use Rattle.model_base.specs.declared.statement.Statement.{Statement}
use Rattle.model_base.specs.Outcomes.{deeds_before, owners}
use Rattle.line_io.specs.Lines.{lines_of}
use Rattle.grants_base.specs.Book.{Entries, ShowsBook}
use Rattle.audit_text.specs.Graph.{graph_text}
use Rattle.sequencer.specs.Catalog.{Names, no_names}
use Rattle.sequencer.specs.Log.{Accepted}
use Rattle.report.specs.Report.{AreParsedLines, ParsedLine, log_of}
use Rattle.batched_text.specs.Reaching.{IsLogOfFront}

-- the place that is asked of, or the end of the log
abbrev pub place_before : List Statement → Option ℕ → ℕ
place_before log limit = unwrap_or limit (length log)

-- the text pictures the grants of a log before a place: they are in a book of all that the log's deeds made and ended
abbrev pub Pictures : List Statement → Names → Option ℕ → List ℕ → Type 0
Pictures log names limit text =
    (book : Entries)
    × (ShowsBook book (owners log) (deeds_before log (length log))
    × (text ≡ graph_text names.users names.tables (place_before log limit) book))

-- so it does for a log that was taken
abbrev pub IsPictureOf : Accepted → Option ℕ → List ℕ → Type 0
IsPictureOf log limit text = Pictures log.statements log.names limit text

-- the text pictures the grants before the place of the log that the lines of the input make as far as it, and with it: of as few
-- lines as make a log with the place, or of all lines
abbrev pub IsPicture : List ℕ → Option ℕ → List ℕ → Type 0
IsPicture input limit text = (log : Accepted) × (IsLogOfFront input limit log × IsPictureOf log limit text)

-- the log that the lines of the input make has so many places, and ends before this one
abbrev pub EndsBefore : List ℕ → Option ℕ → ℕ → Type 0
EndsBefore input limit places =
    (readings : List ParsedLine)
    × (AreParsedLines (lines_of input) readings
    × ((length (log_of no_names readings) ≡ places) × (places < place_before (log_of no_names readings) limit)))
