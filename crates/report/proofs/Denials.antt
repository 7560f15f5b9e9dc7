-- The report is a line for each line of its text, and the line of a place says who was denied.
use Rattle.std.proofs.Common.{◌≡◌, ℕ, ℤ, zero, suc, ◌+◌, List, [], ◌∷◌, ◌++◌, Option, None, Some, length, drop, eqb, get_or, refl, sym, ◌∙◌, ap, append_assoc, arith}
use Rattle.std.specs.Prelude.{codes, slice_get, take}
use Rattle.std.specs.Fmt.{decimal}
use Rattle.std.specs.List.{flat_map}
use Rattle.std.proofs.lemmas.Bool.{false≢true}
use Rattle.std.proofs.lemmas.List.{append_cancel_left, length-append}
use Rattle.model_base.specs.declared.deed.Cause.{Cause}
use Rattle.model_base.specs.declared.deed.Need.{Need}
use Rattle.model_base.specs.declared.statement.Form.{Form}
use Rattle.model_base.specs.declared.statement.Statement.{Statement}
use Rattle.model_base.specs.declared.outcome.DeedDone.{DeedDone}
use Rattle.model_base.specs.declared.outcome.Outcome.{Outcome}
use Rattle.model_base.specs.Admitted.{IsAsked, WasDenied}
use Rattle.model_base.specs.Outcomes.{outcome}
use Rattle.model_base.proofs.Admitted.{denied-unheld, told-denial, unheld-denied}
use Rattle.log_text.specs.Statement.{Sentence}
use Rattle.sequencer.specs.Catalog.{Names, no_names, numbered}
use Rattle.sequencer.specs.Refusal.{refusal}
use Rattle.sequencer.specs.declared.refused.Refused.{Refused}
use Rattle.report.specs.Text.{cause_text, done_text, ending_text, need_text, outcome_text}
use Rattle.report.specs.Report.{ParsedLine, the_heading, read, faulty, accepted, line_text, log_of, names_after, names_if, names_with, place_text, report_from, text_of, report_of, statement_if}
use Rattle.report.specs.Denials.{HasLineFor, IsTakenAt, SaysDenied, TellsPrivileges, denial_text, lines_told, names_ahead, report_lines}
use Rattle.report.proofs.ReportLemmas.{log_of-append, place_spelled}

-- the report is its lines, one after another
told-report : (log : List Statement) (all : Names) (number : ℕ) (names : Names) (readings : List ParsedLine)
    → report_from log all number names readings ≡ flat_map (λ line. line) (lines_told log all number names readings)
told-report log all number names [] = refl
told-report log all number names (reading ∷ readings) =
    ap (λ (rest : List ℕ). line_text log all number names reading ++ rest) (told-report log all (number + 1) (names_with names reading) readings)

pub report-lines : (readings : List ParsedLine) → report_of readings ≡ flat_map (λ line. line) (report_lines readings)
report-lines readings = told-report (log_of no_names readings) (names_after no_names readings) 1 no_names readings

-- a line of the text has one of the report
told-at : (log : List Statement) (all : Names) (number : ℕ) (names : Names) (readings : List ParsedLine) (index : ℕ) (reading : ParsedLine)
    → slice_get readings index ≡ Some reading
    → slice_get (lines_told log all number names readings) index ≡ Some (line_text log all (number + index) (names_after names (take index readings)) reading)
told-at log all number names [] index _ is = absurd (cc)
told-at log all number names (first ∷ readings) zero reading is =
    let same : first ≡ reading = cc in
    let at : number ≡ number + 0 = omega arith in
    ap (λ (r : ParsedLine). Some (line_text log all number names r)) same
    ∙ ap (λ (n : ℕ). Some (line_text log all n names reading)) at
told-at log all number names (first ∷ readings) (suc index) reading is =
    let at : (number + 1) + index ≡ number + suc index = omega arith in
    told-at log all (number + 1) (names_with names first) readings index reading is
    ∙ ap (λ (n : ℕ). Some (line_text log all n (names_after (names_with names first) (take index readings)) reading)) at

-- each line that the log takes is one more place
places-if : (names : Names) (sentence : Sentence) (refused : Option Refused)
    → (names_if names sentence refused).places ≡ names.places + length (statement_if names sentence refused)
places-if names sentence None = refl
places-if names sentence (Some refused) = omega arith

places-with : (names : Names) (reading : ParsedLine) → (names_with names reading).places ≡ names.places + length (accepted names reading)
places-with names the_heading = omega arith
places-with names (read sentence) = places-if names sentence (refusal names sentence)
places-with names (faulty fault) = omega arith

places-after : (names : Names) (readings : List ParsedLine) → (names_after names readings).places ≡ names.places + length (log_of names readings)
places-after names [] = omega arith
places-after names (reading ∷ readings) =
    omega (arith, places-after (names_with names reading) readings, places-with names reading, length-append (accepted names reading) (log_of (names_with names reading) readings))

-- the readings before one, that one, and those after it
split-at : (readings : List ParsedLine) (index : ℕ) (reading : ParsedLine) → slice_get readings index ≡ Some reading
    → readings ≡ take index readings ++ reading ∷ drop (suc index) readings
split-at [] index _ is = absurd (cc)
split-at (first ∷ readings) zero reading is = let same : first ≡ reading = cc in ap (λ (r : ParsedLine). r ∷ readings) same
split-at (first ∷ readings) (suc index) reading is = ap (λ (rs : List ParsedLine). first ∷ rs) (split-at readings index reading is)

behind : {X : Type 0} (xs ys : List X) (x : X) → slice_get (xs ++ x ∷ ys) (length xs) ≡ Some x
behind [] ys x = refl
behind (y ∷ xs) ys x = behind xs ys x

-- what the log takes of a line and those after it begins with the statement of the line
taken-first : (names : Names) (sentence : Sentence) (later : List ParsedLine) → refusal names sentence ≡ None
    → log_of names (read sentence ∷ later) ≡ numbered names sentence ∷ log_of (names_with names (read sentence)) later
taken-first names sentence later taken =
    ap (λ (refused : Option Refused). statement_if names sentence refused ++ log_of (names_with names (read sentence)) later) taken

logged-behind : (earlier later : List ParsedLine) (sentence : Sentence) → refusal (names_after no_names earlier) sentence ≡ None
    → slice_get (log_of no_names (earlier ++ read sentence ∷ later)) (names_after no_names earlier).places
    ≡ Some (numbered (names_after no_names earlier) sentence)
logged-behind earlier later sentence taken =
    let place : (names_after no_names earlier).places ≡ length (log_of no_names earlier) = omega (arith, places-after no_names earlier) in
    let log : log_of no_names (earlier ++ read sentence ∷ later)
    ≡ log_of no_names earlier ++ numbered (names_after no_names earlier) sentence ∷ log_of (names_with (names_after no_names earlier) (read sentence)) later =
    log_of-append no_names earlier (read sentence ∷ later)
    ∙ ap (λ (rest : List Statement). log_of no_names earlier ++ rest) (taken-first (names_after no_names earlier) sentence later taken) in
    ap (λ (all : List Statement). slice_get all (names_after no_names earlier).places) log
    ∙ ap (slice_get (log_of no_names earlier ++ numbered (names_after no_names earlier) sentence ∷ log_of (names_with (names_after no_names earlier) (read sentence)) later)) place
    ∙ behind (log_of no_names earlier) (log_of (names_with (names_after no_names earlier) (read sentence)) later) (numbered (names_after no_names earlier) sentence)

-- the statement that the log takes is at its place
logged-at : (readings : List ParsedLine) (index : ℕ) (sentence : Sentence) → slice_get readings index ≡ Some (read sentence)
    → refusal (names_ahead readings index) sentence ≡ None
    → slice_get (log_of no_names readings) (names_ahead readings index).places ≡ Some (numbered (names_ahead readings index) sentence)
logged-at readings index sentence is taken =
    ap (λ (all : List ParsedLine). slice_get (log_of no_names all) (names_ahead readings index).places) (split-at readings index (read sentence) is)
    ∙ logged-behind (take index readings) (drop (suc index) readings) sentence taken

-- what is after the place in a line that says denied
ending-said : (log : List Statement) (names : Names) (place : ℕ) (form : Form) (o : Outcome) (rest : List ℕ)
    → outcome_text log names place form o ≡ decimal place ++ codes " denied " ++ rest
    → ending_text log names form o ++ codes "\n" ≡ codes " denied " ++ rest
ending-said log names place form o rest is =
    append_cancel_left (decimal place) (ending_text log names form o ++ codes "\n") (codes " denied " ++ rest)
    (sym (append_assoc (decimal place) (ending_text log names form o) (codes "\n")) ∙ is ∙ append_assoc (decimal place) (codes " denied ") rest)

done-said : (log : List Statement) (names : Names) (form : Form) (outputs : List ℤ) (deed : DeedDone) (rest : List ℕ)
    → done_text log names form outputs deed ++ codes "\n" ≡ codes " denied " ++ rest → ⊥
done-said log names (Form.Create table columns) outputs deed rest is = false≢true (ap (λ (bs : List ℕ). eqb (get_or bs 2 0) 101) is)
done-said log names (Form.Run accesses steps asked) outputs deed rest is = false≢true (ap (λ (bs : List ℕ). eqb (get_or bs 2 0) 101) is)
done-said log names (Form.Deed asked) outputs DeedDone.None rest is = false≢true (ap (λ (bs : List ℕ). eqb (get_or bs 0 0) 32) is)
done-said log names (Form.Deed asked) outputs DeedDone.Granted rest is = false≢true (ap (λ (bs : List ℕ). eqb (get_or bs 1 0) 100) is)
done-said log names (Form.Deed asked) outputs (DeedDone.Revoked ranks) rest is = false≢true (ap (λ (bs : List ℕ). eqb (get_or bs 1 0) 100) is)

-- only a denial is spelled as one
said-denied : (log : List Statement) (names : Names) (form : Form) (o : Outcome) (rest : List ℕ)
    → ending_text log names form o ++ codes "\n" ≡ codes " denied " ++ rest → WasDenied (Some o)
said-denied log names form Outcome.Created rest is = absurd (false≢true (ap (λ (bs : List ℕ). eqb (get_or bs 1 0) 100) is))
said-denied log names form (Outcome.Done outputs deed) rest is = absurd (done-said log names form outputs deed rest is)
said-denied log names form (Outcome.Denied need why) rest is = tt
said-denied log names form (Outcome.Aborted step reason) rest is = absurd (false≢true (ap (λ (bs : List ℕ). eqb (get_or bs 1 0) 100) is))
said-denied log names form (Outcome.Undeclared step) rest is = absurd (false≢true (ap (λ (bs : List ℕ). eqb (get_or bs 1 0) 100) is))

-- and each denial is
denial-spelled : (log : List Statement) (names : Names) (place : ℕ) (form : Form) (need : Need) (why : Cause)
    → outcome_text log names place form (Outcome.Denied need why) ≡ denial_text names.tables place need why
denial-spelled log names place form need why = simp append_assoc

denial-says : (tables : List (List ℕ)) (place : ℕ) (need : Need) (why : Cause) → SaysDenied place (denial_text tables place need why)
denial-says tables place need why = (need_text tables need ++ cause_text why ++ codes "\n", simp append_assoc)

nothing-said : (place : ℕ) → SaysDenied place [] → ⊥
nothing-said place said =
    let count = ap length said.1 in
    omega (arith, count, length-append (decimal place ++ codes " denied ") said.0, length-append (decimal place) (codes " denied "))

module _ (log : List Statement) (names : Names) (place : ℕ) (statement : Statement) (asked : IsAsked log place statement) where
  spelled : (o : Outcome) → outcome log place ≡ Some o → place_text log names place ≡ outcome_text log names place statement.form o
  spelled o is = sym (place_spelled log names place statement o asked.there is)

  unspelled : outcome log place ≡ None → place_text log names place ≡ []
  unspelled none =
      ap (λ (s : Option Statement). text_of log names place s (outcome log place)) asked.there
      ∙ ap (text_of log names place (Some statement)) none

  said-outcome : (found : Option Outcome) → outcome log place ≡ found → SaysDenied place (place_text log names place) → WasDenied found
  said-outcome None is said = absurd (nothing-said place (rw (unspelled is) at said))
  said-outcome (Some o) is said =
      said-denied log names statement.form o said.0
      (ending-said log names place statement.form o said.0 (sym (spelled o is) ∙ said.1))

  outcome-said : (found : Option Outcome) → outcome log place ≡ found → WasDenied found → SaysDenied place (place_text log names place)
  outcome-said None is denied = absurd denied
  outcome-said (Some (Outcome.Denied need why)) is denied =
      rw (spelled (Outcome.Denied need why) is, denial-spelled log names place statement.form need why) (denial-says names.tables place need why)
  outcome-said (Some Outcome.Created) is denied = absurd denied
  outcome-said (Some (Outcome.Done outputs deed)) is denied = absurd denied
  outcome-said (Some (Outcome.Aborted step reason)) is denied = absurd denied
  outcome-said (Some (Outcome.Undeclared step)) is denied = absurd denied

  -- the line of a RUN or a deed says who holds what
  place-tells : TellsPrivileges log names.tables place statement (place_text log names place)
  place-tells = record {
    denied = (
      λ said. denied-unheld log place statement asked (said-outcome (outcome log place) refl said),
      λ any. outcome-said (outcome log place) refl (unheld-denied log place statement asked any),
    );
    first = λ need why denial.
        spelled (Outcome.Denied need why) (told-denial log place statement asked need why denial)
        ∙ denial-spelled log names place statement.form need why;
  }

-- so does the line that the report has for it
pub line-tells : (readings : List ParsedLine) (index place : ℕ) (statement : Statement) → IsTakenAt readings index place statement
    → HasLineFor readings index place statement
line-tells readings index place statement taken =
    let log = log_of no_names readings in
    let all = names_after no_names readings in
    let names = names_ahead readings index in
    let logged : slice_get log place ≡ Some statement =
    rw (taken.next, taken.numbers) (logged-at readings index taken.sentence taken.reads taken.accepted) in
    let asked : IsAsked log place statement = record { there = logged; asks = taken.asks } in
    let text : line_text log all (1 + index) names (read taken.sentence) ≡ place_text log all place =
    rw (taken.accepted, taken.next) refl in
    record {
      line = place_text log all place;
      stands = told-at log all 1 no_names readings index (read taken.sentence) taken.reads ∙ ap Some text;
      logged = logged;
      tells = place-tells log all place statement asked;
    }
