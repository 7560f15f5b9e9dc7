-- What is answered about several places of the text of a log: about each of some places, or about each that was denied.
use Rattle.std.specs.Prelude.{◌≡◌, ◌<◌, ◌++◌, ◌∷◌, [], ℕ, Bool, Contains, List, Vec, false, filter, get_or, length, true}
use Rattle.std.specs.List.{range_with_len}
use Rattle.std.specs.Option.{option_map_or}
use Rattle.std.specs.declared.alloc.Global.{Global}
use Rattle.model_base.specs.declared.outcome.Outcome.{Outcome}
use Rattle.model_base.specs.declared.statement.Statement.{Statement}
use Rattle.model_base.specs.Outcomes.{outcome}
use Rattle.line_io.specs.Lines.{lines_of}
use Rattle.sequencer.specs.Catalog.{Names, no_names}
use Rattle.report.specs.Report.{AreParsedLines, ParsedLine, log_of, names_after}
use Rattle.audit_text.specs.Answer.{Answers, HasNoPlace}
use Rattle.audit_text.specs.declared.question.Question.{Question}

-- what is asked about a place
abbrev pub question_at : Bool → ℕ → Question
question_at checked place = record { place = place; is_checked = checked }

-- the text has the answer about each of the places of a log with these names, one after another
abbrev pub AreAnswers : List Statement → Names → Bool → List ℕ → List ℕ → Type 0
AreAnswers log names checked [] text = text ≡ []
AreAnswers log names checked (place ∷ places) text =
    (first : List ℕ)
    × ((rest : List ℕ)
    × (Answers log names (question_at checked place) first × (AreAnswers log names checked places rest × (text ≡ first ++ rest))))

-- so it has for the log that the lines of the input make
abbrev pub AreExplanations : List ℕ → List ℕ → Bool → List ℕ → Type 0
AreExplanations input places checked text =
    (readings : List ParsedLine)
    × (AreParsedLines (lines_of input) readings × AreAnswers (log_of no_names readings) (names_after no_names readings) checked places text)

-- the log that the lines of the input make has so many places, and not each of these
abbrev pub LacksPlaceOf : List ℕ → List ℕ → ℕ → Type 0
LacksPlaceOf input places count = (place : ℕ) × (Contains places place × HasNoPlace input place count)

-- whether the outcome is that a statement was denied
abbrev pub is_denial : Outcome → Bool
is_denial Outcome.Created = false
is_denial (Outcome.Done outputs deed) = false
is_denial (Outcome.Denied need cause) = true
is_denial (Outcome.Aborted step reason) = false
is_denial (Outcome.Undeclared step) = false

-- whether the statement of the place of a log was denied
abbrev pub is_denied_at : List Statement → ℕ → Bool
is_denied_at log place = option_map_or is_denial (outcome log place) false

-- those of this many places from the first on that were denied
abbrev pub denied_places_from : List Statement → ℕ → ℕ → List ℕ
denied_places_from log first count = filter (is_denied_at log) (range_with_len first count)

-- the text has the answer about each denied place of the log that the lines of the input make, one after another
abbrev pub AreDenials : List ℕ → Bool → List ℕ → Type 0
AreDenials input checked text =
    (readings : List ParsedLine)
    × (AreParsedLines (lines_of input) readings
    × AreAnswers (log_of no_names readings) (names_after no_names readings) checked
    (denied_places_from (log_of no_names readings) 0 (length (log_of no_names readings))) text)

-- each of these texts is the answer about the place of its index
abbrev pub AreAnswered : List Statement → Names → Bool → List ℕ → List (Vec ℕ Global) → Type 0
AreAnswered log names checked places texts =
    (k : ℕ) (d : Vec ℕ Global) → k < length places → Answers log names (question_at checked (get_or places k 0)) (get_or texts k d).items
