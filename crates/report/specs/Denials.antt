-- The report line by line, and what it says of who may do what.
use Rattle.std.specs.Prelude.{◌≡◌, ◌↔◌, ℕ, ◌+◌, None, Some, List, [], ◌∷◌, ◌++◌, Any, codes, slice_get, take}
use Rattle.std.specs.Fmt.{decimal}
use Rattle.model_base.specs.declared.deed.Cause.{Cause}
use Rattle.model_base.specs.declared.deed.Need.{Need}
use Rattle.model_base.specs.declared.statement.Statement.{Statement}
use Rattle.model_base.specs.Admitted.{AsksForPrivileges, IsDenial, IsPrivileged}
use Rattle.model_base.specs.Outcomes.{deeds_before, needs, owners}
use Rattle.log_text.specs.Statement.{Sentence}
use Rattle.sequencer.specs.Catalog.{Names, no_names, numbered}
use Rattle.sequencer.specs.Refusal.{refusal}
use Rattle.report.specs.Text.{cause_text, need_text}
use Rattle.report.specs.Report.{ParsedLine, read, line_text, log_of, names_after, names_with}

-- the report's lines, each by itself, from a line of this number on; the heading's is empty
abbrev pub lines_told : List Statement → Names → ℕ → Names → List ParsedLine → List (List ℕ)
lines_told log all number names [] = []
lines_told log all number names (reading ∷ readings) =
    line_text log all number names reading ∷ lines_told log all (number + 1) (names_with names reading) readings

-- the report's lines of lines that are read so
abbrev pub report_lines : List ParsedLine → List (List ℕ)
report_lines readings = lines_told (log_of no_names readings) (names_after no_names readings) 1 no_names readings

-- the names before the line of this index
abbrev pub names_ahead : List ParsedLine → ℕ → Names
names_ahead readings index = names_after no_names (take index readings)

-- the log takes the line of this index as this RUN or deed, at this place
pub record IsTakenAt (readings : List ParsedLine) (index place : ℕ) (statement : Statement) : Type 0 where
  pub sentence : Sentence
  pub reads : slice_get readings index ≡ Some (read sentence)
  pub accepted : refusal (names_ahead readings index) sentence ≡ None
  pub next : place ≡ (names_ahead readings index).places
  pub numbers : statement ≡ numbered (names_ahead readings index) sentence
  pub asks : AsksForPrivileges statement.form

-- the line says that the statement of the place was denied
abbrev pub SaysDenied : ℕ → List ℕ → Type 0
SaysDenied place line = (rest : List ℕ) × (line ≡ decimal place ++ codes " denied " ++ rest)

-- a denial, as a line of the report: the place, the kind and the table of the need, and its cause, never or taken at a place
abbrev pub denial_text : List (List ℕ) → ℕ → Need → Cause → List ℕ
denial_text tables place need why = decimal place ++ codes " denied " ++ need_text tables need ++ cause_text why ++ codes "\n"

-- the line of a RUN or a deed says denied exactly if its user lacks one of its needs by the deeds before its place; then it
-- spells the first need that is missing, and why it is
pub record TellsPrivileges (log : List Statement) (tables : List (List ℕ)) (place : ℕ) (statement : Statement) (line : List ℕ)
    : Type 0 where
  pub denied : SaysDenied place line
      ↔ Any (λ need. ¬ IsPrivileged (owners log) (deeds_before log place) statement.user need) (needs statement.form)
  pub first : (need : Need) (why : Cause)
      → IsDenial (owners log) (deeds_before log place) statement.user (needs statement.form) need why
      → line ≡ denial_text tables place need why

-- the report has a line for this place, the one of the line that the log takes there, and it says who holds what
pub record HasLineFor (readings : List ParsedLine) (index place : ℕ) (statement : Statement) : Type 0 where
  pub line : List ℕ
  pub stands : slice_get (report_lines readings) index ≡ Some line
  pub logged : slice_get (log_of no_names readings) place ≡ Some statement
  pub tells : TellsPrivileges (log_of no_names readings) (names_after no_names readings).tables place statement line
