-- How far a run is that is fed piece by piece.
use Rattle.std.specs.Prelude.{◌≡◌, ◌≤◌, ◌<◌, ◌++◌, [], ℕ, false, true, List, Option, Some, drop, length, take}
use Rattle.line_io.specs.Lines.{HasLine}
use Rattle.line_io.specs.declared.limits.TheConstants.{KEPT_BYTES}
use Rattle.report.specs.Report.{IsReport}
use Rattle.audit_text.specs.Answer.{IsExplanation}
use Rattle.audit_text.specs.RowsBefore.{IsRows, LacksTable}
use Rattle.model_base.specs.declared.deed.Kind.{Kind}
use Rattle.privileges_text.specs.Questions.{IsHolders}
use Rattle.batched_text.specs.Batching.{IsBatched, next_line}
use Rattle.batched_text.specs.declared.line_run.LineRun.{LineRun}
use Rattle.fed_run.specs.declared.fed.FedRun.{FedRun}

-- the bytes of the report that weren't given yet
abbrev pub unsent : FedRun → List ℕ
unsent run = drop run.sent run.run.pending.items

-- what may still come: nothing once the text was ended
abbrev pub MayCome : FedRun → List ℕ → Type 0
MayCome run future = run.is_ended ≡ true → future ≡ []

-- the lines of the input before what is still to come were dealt with, and this is the report's text for them, but for lines that wait
abbrev pub IsRunTo : List ℕ → List ℕ → List ℕ → LineRun → Type 0
IsRunTo input rest text run = IsBatched input rest text run.engine.log run.reported run.waiting.items (next_line run)

-- the run was given the input, and gave what is written. The input ends in a tail without LF, whose first bytes are kept. Whatever
-- comes, the lines before the tail were dealt with, and what was written and what is to be given are the report's lines for them, but
-- for lines that wait
pub record IsFed (run : FedRun) (input written : List ℕ) : Type 0 where
  pub tail : List ℕ
  pub kept : run.begun.items ≡ take KEPT_BYTES tail
  pub unended : HasLine tail → ⊥
  pub reached : (future : List ℕ) → MayCome run future → IsRunTo (input ++ future) (tail ++ future) (written ++ unsent run) run.run

-- bytes of the report were given: those of the room that are made are now this many
pub record Gives (old new : FedRun) (out_old out_new : List ℕ) (made_old made_new : ℕ) : Type 0 where
  pub made : made_new ≤ length out_new
  pub len : length out_new ≡ length out_old
  pub stands : (input written : List ℕ) → IsFed old input (written ++ take made_old out_old)
      → IsFed new input (written ++ take made_new out_new)
  pub ended : new.is_ended ≡ old.is_ended

-- of the input this many bytes were taken, and this many bytes were given
pub record Feeds (input out : List ℕ) (old new : FedRun) (used made : ℕ) : Type 0 where
  pub in_input : used ≤ length input
  pub in_out : made ≤ length out
  pub stands : (text written : List ℕ) → IsFed old text written → IsFed new (text ++ take used input) (written ++ take made out)
  pub ended : new.is_ended ≡ old.is_ended

-- no line waits once all was given, and while there is room all was given
pub record IsGivenOut (run : FedRun) (out : List ℕ) (made : ℕ) : Type 0 where
  pub settled : unsent run ≡ [] → run.run.waiting.items ≡ []
  pub full : made < length out → unsent run ≡ []

-- of the input the bytes from one count to another were taken
pub record TakesBytes (input : List ℕ) (old new : FedRun) (used_old used_new : ℕ) : Type 0 where
  pub forward : used_old ≤ used_new
  pub within : used_new ≤ length input
  pub stands : (text written : List ℕ) → IsFed old (text ++ take used_old input) written → IsFed new (text ++ take used_new input) written

-- the text explains the place, whatever comes: it is the explanation of the place of each text that begins with what was taken
abbrev pub TextExplains : FedRun → ℕ → List ℕ → Type 0
TextExplains run place text = (input written future : List ℕ) → IsFed run input written → MayCome run future
    → IsExplanation (input ++ future) (record { place = place; is_checked = false }) text

-- the text has the rows that are there, of the table of the name or of all, whatever comes: those after the reported places of each text that
-- begins with what was taken
abbrev pub TextListsRows : FedRun → Option (List ℕ) → List ℕ → Type 0
TextListsRows run name text = (input written future : List ℕ) → IsFed run input written → MayCome run future
    → IsRows (input ++ future) name (Some run.run.reported) text

-- the text lists who holds the kind on the table of the name, whatever comes: after the reported places of each text that begins with what was
-- taken
abbrev pub TextListsHolders : FedRun → Kind → List ℕ → List ℕ → Type 0
TextListsHolders run kind name text = (input written future : List ℕ) → IsFed run input written → MayCome run future
    → IsHolders (input ++ future) kind name (Some run.run.reported) text

-- no reported place of such a text creates a table of the name
abbrev pub TextLacksTable : FedRun → Option (List ℕ) → Type 0
TextLacksTable run name = (input written future : List ℕ) → IsFed run input written → MayCome run future
    → LacksTable (input ++ future) name (Some run.run.reported)

-- no line was reported or waits, none has begun, no statement was accepted, and the text wasn't ended
pub record IsUnfed (run : FedRun) : Type 0 where
  pub lines : run.run.lines ≡ 0
  pub places : length run.run.engine.log.statements ≡ 0
  pub waiting : run.run.waiting.items ≡ []
  pub begun : run.begun.items ≡ []
  pub going : run.is_ended ≡ false

-- so many of the last places are kept from now on, and nothing else has changed
pub record KeepsLast (places : ℕ) (old new : FedRun) : Type 0 where
  pub keep : new.keep ≡ places
  pub run : new.run ≡ old.run
  pub begun : new.begun.items ≡ old.begun.items
  pub sent : new.sent ≡ old.sent
  pub ended : new.is_ended ≡ old.is_ended

-- the bytes are a beginning of the text's report
abbrev pub BeginsReport : List ℕ → List ℕ → Type 0
BeginsReport text bytes = (rest : List ℕ) × IsReport text (bytes ++ rest)
