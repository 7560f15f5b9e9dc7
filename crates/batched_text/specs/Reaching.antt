-- The log of a text as far as a place: of as few of its first lines as make a log with the place, or of all of them. That an
-- explanation reads no further is this project's own.
use Rattle.std.specs.Prelude.{◌≡◌, ◌<◌, ◌==◌, ◌++◌, ◌∷◌, ◌⊎◌, [], ⊤, ℕ, Bool, List, None, Option, Some, length}
use Rattle.std.specs.Io.KnownBytes.{IsAtEnd}
use Rattle.model_base.specs.declared.statement.Statement.{Statement}
use Rattle.line_io.specs.Lines.{lines_of}
use Rattle.sequencer.specs.Catalog.{no_names}
use Rattle.sequencer.specs.Log.{Accepted}
use Rattle.report.specs.Report.{AreParsedLines, ParsedLine, log_of}
use Rattle.bohm_base.specs.Collecting.{AreReadBefore, IsLogOf}
use Rattle.bohm_base.specs.declared.collecting.LineOutcome.{LineOutcome}

-- the log has the place that is named, if one is
abbrev pub HasPlace : Option ℕ → List Statement → Type 0
HasPlace None log = ⊥
HasPlace (Some place) log = place < length log

-- without the last of these lines the log hasn't the place: none was taken once it had
abbrev pub AreFewest : Option ℕ → List ParsedLine → Type 0
AreFewest limit readings =
    (front : List ParsedLine) (last : ParsedLine) → readings ≡ front ++ last ∷ [] → HasPlace limit (log_of no_names front) → ⊥

-- the log is that of the first lines of the input, of as few as make a log with the place, or of all of them
pub record IsLogOfFront (input : List ℕ) (limit : Option ℕ) (log : Accepted) : Type 0 where
  pub earlier : List ParsedLine
  pub later : List ParsedLine
  pub read : AreParsedLines (lines_of input) (earlier ++ later)
  pub lines : List LineOutcome
  pub made : IsLogOf earlier log lines
  pub fewest : AreFewest limit earlier
  pub enough : HasPlace limit log.statements ⊎ (later ≡ [])

-- so it is where the input is known
abbrev pub IsLogUpTo : Option (List ℕ) → Option ℕ → Accepted → Type 0
IsLogUpTo None limit log = ⊤
IsLogUpTo (Some input) limit log = IsLogOfFront input limit log

-- the log is that of the lines of the input before what is still to come, the last of which was taken while the log hadn't the place; and
-- whether the next line is the first of all
pub record IsFrontTaken (first : Bool) (input rest : List ℕ) (place : ℕ) (log : Accepted) : Type 0 where
  pub earlier : List ParsedLine
  pub none : first ≡ (length earlier == 0)
  pub leads : AreReadBefore input rest earlier
  pub lines : List LineOutcome
  pub made : IsLogOf earlier log lines
  pub fewest : AreFewest (Some place) earlier

-- so it is where the input is known
abbrev pub HasTaken : Bool → Option (List ℕ) → Option (List ℕ) → ℕ → Accepted → Type 0
HasTaken first None rest place log = ⊤
HasTaken first (Some input) None place log = ⊥
HasTaken first (Some input) (Some rest) place log = IsFrontTaken first input rest place log

-- and the log has the place, or nothing is still to come
abbrev pub EndsTaking : Option (List ℕ) → ℕ → Accepted → Type 0
EndsTaking input place log =
    (first : Bool) × (rest : Option (List ℕ)) × (HasTaken first input rest place log × ((place < length log.statements) ⊎ IsAtEnd rest))
