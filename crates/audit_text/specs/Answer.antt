-- What is answered about a place of the text of a log: the report's line for the place, and why its statement was admitted or denied.
use Rattle.std.specs.Prelude.{◌≡◌, ◌≤◌, ◌++◌, ℕ, List, MatchBool, [], Some, codes, length}
use Rattle.model_base.specs.declared.statement.Statement.{Statement}
use Rattle.line_io.specs.Lines.{lines_of}
use Rattle.explain.specs.declared.line.Line.{Line}
use Rattle.sequencer.specs.Catalog.{Names, no_names}
use Rattle.sequencer.specs.Log.{Accepted}
use Rattle.report.specs.Report.{AreParsedLines, ParsedLine, log_of, names_after, place_text}
use Rattle.explain.specs.Explained.{IsExplainedBy, explained}
use Rattle.audit_text.specs.Explanation.{explanation_text}
use Rattle.audit_text.specs.declared.question.Question.{Question}

-- what comes after the lines that explain a place: where a check is asked for, `checked`, and then the lines are sound; else nothing
abbrev pub EndsAnswer : List Statement → Question → List Line → List ℕ → Type 0
EndsAnswer log question lines ending =
    MatchBool question.is_checked (IsExplainedBy log question.place lines × (ending ≡ codes "checked\n")) (ending ≡ [])

-- the text answers the question about a log with these names: it is the report's line for the place, then the lines that explain it,
-- and, where a check is asked for, `checked` after lines that are sound
pub record Answers (log : List Statement) (names : Names) (question : Question) (text : List ℕ) : Type 0 where
  pub lines : List Line
  pub explaining : explained log question.place ≡ Some lines
  pub ending : List ℕ
  pub ended : EndsAnswer log question lines ending
  pub told : text ≡ place_text log names question.place ++ explanation_text log names lines ++ ending

-- so it does for a log that was taken
abbrev pub AnswersAccepted : Accepted → Question → List ℕ → Type 0
AnswersAccepted log question text = Answers log.statements log.names question text

-- the text answers the question about the log that the lines of the input make
abbrev pub IsExplanation : List ℕ → Question → List ℕ → Type 0
IsExplanation input question text =
    (readings : List ParsedLine)
    × (AreParsedLines (lines_of input) readings × Answers (log_of no_names readings) (names_after no_names readings) question text)

-- the log that the lines of the input make has so many places, and not this one
abbrev pub HasNoPlace : List ℕ → ℕ → ℕ → Type 0
HasNoPlace input place places =
    (readings : List ParsedLine)
    × (AreParsedLines (lines_of input) readings × ((length (log_of no_names readings) ≡ places) × (places ≤ place)))
