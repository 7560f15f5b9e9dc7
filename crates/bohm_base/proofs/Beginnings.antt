-- The report so far, as the writer holds it.
use Rattle.std.proofs.Common.{◌≡◌, ◌<◌, ◌≤◌, ℕ, suc, ◌+◌, ◌-◌, List, [], ◌∷◌, ◌++◌, length, get_or, take, drop, Option, Some, None, ap, sym, ◌∙◌, subst, append_assoc, add-one, drop-cons, arith}
use Rattle.std.specs.Prelude.{IfSome, OnOk, Result, Ok, Err}
use Rattle.std.specs.Io.KnownBytes.{Appends, Keeps}
use Rattle.std.proofs.lemmas.List.{append-nil, drop-drop, length-drop, length-take-le, take-append-drop}
use Rattle.line_io.specs.Known.{AppendsFront, HasBegun, MovesOut}
use Rattle.line_io.specs.declared.fault.EngineFault.{EngineFault}
use Rattle.line_io.proofs.Written.{appends_none, appends_then, appends_kept, appends_front, moved_none}
use Rattle.model_base.specs.declared.statement.Statement.{Statement}
use Rattle.sequencer.specs.Catalog.{Names}
use Rattle.sequencer.specs.Log.{Accepted}
use Rattle.report.proofs.Readings.{IsTotal, some_report}
use Rattle.bohm_base.specs.declared.collecting.LineOutcome.{LineOutcome}
use Rattle.bohm_base.specs.Collecting.{Collects, line_outcome_text, log_text, places_in, places_of, report_text}
use Rattle.bohm_base.specs.Pending.{WritesBegunReport, WritesReport}
use Rattle.bohm_base.proofs.Logs.{report_is}

-- the report of lines after others goes on with their number and place
pub parts : (log : List Statement) (names : Names) (number place : ℕ) (lines later : List LineOutcome)
    → report_text log names number place (lines ++ later)
    ≡ report_text log names number place lines ++ report_text log names (number + length lines) (place + places_in lines) later
parts log names number place [] later =
    let a : number ≡ number + 0 = omega arith in
    let b : place ≡ place + 0 = omega arith in
    ap (λ (n : ℕ). report_text log names n place later) a ∙ ap (λ (p : ℕ). report_text log names (number + 0) p later) b
parts log names number place (line ∷ lines) later =
    let a : number + 1 + length lines ≡ number + suc (length lines) = omega arith in
    let b : place + places_of line + places_in lines ≡ place + (places_of line + places_in lines) = omega arith in
    let first = line_outcome_text log names number place line in
    ap (λ t. first ++ t)
    (parts log names (number + 1) (place + places_of line) lines later
    ∙ ap (λ (n : ℕ). report_text log names (number + 1) (place + places_of line) lines ++ report_text log names n (place + places_of line + places_in lines) later) a
    ∙ ap (λ (p : ℕ). report_text log names (number + 1) (place + places_of line) lines ++ report_text log names (number + suc (length lines)) p later) b)
    ∙ sym (append_assoc first (report_text log names (number + 1) (place + places_of line) lines) _)

-- the first of the lines that are left are pending too
pub moves_on : (o n : Option (List ℕ)) (log : Accepted) (whole : List ℕ) (number place : ℕ) (lines some rest : List LineOutcome) (pending : List ℕ)
    → lines ≡ some ++ rest → MovesOut o n whole (pending ++ report_text log.statements log.names number place lines)
    → MovesOut o n whole ((pending ++ report_text log.statements log.names number place some)
    ++ report_text log.statements log.names (number + length some) (place + places_in some) rest)
moves_on o n log whole number place lines some rest pending split moves =
    let text : List ℕ = report_text log.statements log.names number place some in
    let left : List ℕ = report_text log.statements log.names (number + length some) (place + places_in some) rest in
    let same : (pending ++ text) ++ left ≡ pending ++ report_text log.statements log.names number place lines =
    append_assoc pending text left
    ∙ ap (λ (w : List ℕ). pending ++ w) (sym (parts log.statements log.names number place some rest))
    ∙ ap (λ (ls : List LineOutcome). pending ++ report_text log.statements log.names number place ls) (sym split) in
    subst (MovesOut o n whole) (sym same) moves

-- the lines that are left are the next one and those after it
pub next_line : (lines : List LineOutcome) (index : ℕ) (d : LineOutcome) → index < length lines
    → drop index lines ≡ get_or lines index d ∷ drop (index + 1) lines
next_line lines index d low = drop-cons lines index d low ∙ ap (λ (k : ℕ). get_or lines index d ∷ drop k lines) (sym (add-one index))

-- its report is after the text, and that of those after it is left
pub line_put : (log : List Statement) (names : Names) (number place places : ℕ) (lines : List LineOutcome) (index : ℕ) (d : LineOutcome) (text longer : List ℕ)
    → index < length lines → places ≡ places_of (get_or lines index d)
    → longer ≡ text ++ line_outcome_text log names number place (get_or lines index d)
    → longer ++ report_text log names (number + 1) (place + places) (drop (index + 1) lines) ≡ text ++ report_text log names number place (drop index lines)
line_put log names number place places lines index d text longer low count put =
    let line : List ℕ = line_outcome_text log names number place (get_or lines index d) in
    let left : ℕ → List ℕ = λ end. report_text log names (number + 1) end (drop (index + 1) lines) in
    ap (λ (w : List ℕ). w ++ left (place + places)) put
    ∙ append_assoc text line (left (place + places))
    ∙ ap (λ (n : ℕ). text ++ (line ++ left (place + n))) count
    ∙ ap (λ (ls : List LineOutcome). text ++ report_text log names number place ls) (sym (next_line lines index d low))

-- or those up to a later one, and the others
pub lines_between : (all lines : List LineOutcome) (done next : ℕ) → lines ≡ all → done ≤ next → next ≤ length all
    → (drop done all ≡ take (next - done) (drop done lines) ++ drop next all) × (length (take (next - done) (drop done lines)) ≡ next - done)
lines_between all lines done next same later within =
    let some : take (next - done) (drop done lines) ≡ take (next - done) (drop done all) = ap (λ (ls : List LineOutcome). take (next - done) (drop done ls)) same in
    let there : done + (next - done) ≡ next = omega (arith, later) in (
      sym (take-append-drop (next - done) (drop done all))
          ∙ ap (λ (ls : List LineOutcome). take (next - done) (drop done all) ++ ls)
          (drop-drop (next - done) done all ∙ ap (λ (k : ℕ). drop k all) there)
          ∙ ap (λ (ls : List LineOutcome). ls ++ drop next all) (sym some),
      ap length some ∙ length-take-le (next - done) (drop done all) (omega (arith, length-drop done all, within)),
    )

-- some lines have at most as many places
pub few_places : (lines : List LineOutcome) → places_in lines ≤ length lines
few_places [] = omega arith
few_places (LineOutcome.Heading ∷ lines) = omega (arith, few_places lines)
few_places (LineOutcome.Accepted ∷ lines) = omega (arith, few_places lines)
few_places (LineOutcome.Faulty fault ∷ lines) = omega (arith, few_places lines)
few_places (LineOutcome.Refused refused ∷ lines) = omega (arith, few_places lines)

-- a front of what was pending is written
pub moves_then : (o n m : Option (List ℕ)) (whole pending less rest : List ℕ) → MovesOut o n whole (pending ++ rest) → MovesOut n m pending less
    → MovesOut o m whole (less ++ rest)
moves_then o n m whole pending less rest first then = (
  first.0 ++ then.0,
  appends_then o n m first.0 then.0 first.1 then.1,
  append_assoc first.0 then.0 (less ++ rest)
      ∙ ap (λ (w : List ℕ). first.0 ++ w) (sym (append_assoc then.0 less rest) ∙ ap (λ (w : List ℕ). w ++ rest) then.2)
      ∙ first.2,
)

-- a beginning of what was pending is written, and then pending
pub begun_then : (o n m : Option (List ℕ)) (whole pending less rest : List ℕ) → MovesOut o n whole (pending ++ rest) → HasBegun n m less pending
    → HasBegun o m less whole
begun_then o n m whole pending less rest moves begun = (
  begun.0 ++ rest,
  subst (MovesOut o m whole) (append_assoc less begun.0 rest) (moves_then o n m whole pending (less ++ begun.0) rest moves begun.1),
)

-- all that was pending is written, or pending still
pub begun_all : (n m : Option (List ℕ)) (pending less : List ℕ) → MovesOut n m pending less → HasBegun n m less pending
begun_all n m pending less moves = ([], subst (MovesOut n m pending) (sym (append-nil less)) moves)

-- nothing of a line is written or pending
pub line_left : (n : Option (List ℕ)) (pending less line : List ℕ) → less ≡ pending → HasBegun n n less (pending ++ line)
line_left n pending less line same =
    (line, subst (λ (w : List ℕ). MovesOut n n (pending ++ line) (w ++ line)) (sym same) (moved_none n (pending ++ line)))

-- a front of what was pending is written, and the rest of it is lost
pub rest_lost : (n m : Option (List ℕ)) (pending less : List ℕ) → AppendsFront n m pending → less ≡ [] → HasBegun n m less pending
rest_lost n m pending less front none =
    let left : List ℕ = drop front.0 pending in
    (left, subst (λ (w : List ℕ). MovesOut n m pending (w ++ left)) (sym none) (take front.0 pending, front.1, take-append-drop front.0 pending))

-- what was pending at the end is written, or a front of it
pub begun_written : (o n m : Option (List ℕ)) (whole pending : List ℕ) → HasBegun o n pending whole → AppendsFront n m pending → AppendsFront o m whole
begun_written o n m whole pending begun front =
    let left : List ℕ = drop front.0 pending ++ begun.0 in
    let moved : MovesOut o m whole left =
    moves_then o n m whole pending (drop front.0 pending) begun.0 begun.1 (take front.0 pending, front.1, take-append-drop front.0 pending) in
    appends_front o m moved.0 left whole moved.1 moved.2

-- before the log is read and run, nothing is written
pub nothing_written : IsTotal → (i o : Option (List ℕ)) → WritesBegunReport i o o
nothing_written total None o = tt
nothing_written total (Some input) o = let report = some_report total input in (report.0, (report.1, (0, appends_none o report.0)))

-- what was pending at the end is written, and the whole is
pub whole_written : (o n m k : Option (List ℕ)) (whole pending : List ℕ) → MovesOut o n whole pending → Appends n m pending → Keeps m k → Appends o k whole
whole_written o n m k whole pending moves appends keeps =
    subst (Appends o k) moves.2 (appends_kept o m k (moves.0 ++ pending) (appends_then o n m moves.0 pending moves.1 appends) keeps)

-- a beginning of the log's text is a beginning of the report
pub some_written : (i o m : Option (List ℕ)) (log : Accepted) (lines : List LineOutcome) → IfSome i (λ input. Collects input log lines)
    → AppendsFront o m (log_text log lines) → WritesBegunReport i o m
some_written None o m log lines collects front = tt
some_written (Some input) o m log lines collects front = (log_text log lines, (report_is input log lines collects, front))

-- the log's text is the report, if that was answered
pub all_written : {A : Type 0} (i o m : Option (List ℕ)) (log : Accepted) (lines : List LineOutcome) (result : Result A EngineFault)
    → IfSome i (λ input. Collects input log lines) → OnOk result (Appends o m (log_text log lines))
    → OnOk result (WritesReport i o m)
all_written i o m log lines (Err fault) collects whole = tt
all_written None o m log lines (Ok done) collects whole = tt
all_written (Some input) o m log lines (Ok done) collects whole = (log_text log lines, (report_is input log lines collects, whole))
