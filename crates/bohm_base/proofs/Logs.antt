-- Logs and names, line after line.
use Rattle.std.proofs.Common.{◌≡◌, ℕ, ◌+◌, List, [], ◌∷◌, ◌++◌, length, Option, Some, None, refl, ap, sym, ◌∙◌, arith}
use Rattle.std.proofs.lemmas.List.{append-nil}
use Rattle.model_base.specs.declared.statement.Statement.{Statement}
use Rattle.log_text.specs.Statement.{Sentence}
use Rattle.sequencer.specs.Catalog.{Names, no_names}
use Rattle.log_text.specs.declared.version.Version.{Version}
use Rattle.sequencer.specs.Log.{Accepted, in_version}
use Rattle.sequencer.specs.Refusal.{refusal}
use Rattle.sequencer.specs.declared.refused.Refused.{Refused}
use Rattle.report.specs.Report.{IsReport, ParsedLine, the_heading, read, faulty, accepted, line_text, log_of, names_after, names_if, names_with, report_from, text_if}
use Rattle.report.proofs.ReportLemmas.{log_of-append, names_after-append}
use Rattle.bohm_base.specs.declared.collecting.LineOutcome.{LineOutcome}
use Rattle.bohm_base.specs.Collecting.{Collects, IsLogOf, line_outcomes, line_outcome, outcome_unless, line_outcome_text, log_text, places_of, report_text, with_reading}

line_outcomes-append : (names : Names) (xs ys : List ParsedLine) → line_outcomes names (xs ++ ys) ≡ line_outcomes names xs ++ line_outcomes (names_after names xs) ys
line_outcomes-append names [] ys = refl
line_outcomes-append names (x ∷ xs) ys = ap (λ (lines : List LineOutcome). line_outcome names x ∷ lines) (line_outcomes-append (names_with names x) xs ys)

-- each line became one thing
pub length-line_outcomes : (names : Names) (readings : List ParsedLine) → length (line_outcomes names readings) ≡ length readings
length-line_outcomes names [] = refl
length-line_outcomes names (reading ∷ readings) = let rest = length-line_outcomes (names_with names reading) readings in omega arith

-- a line that adds nothing
pub unchanged : (log : Accepted) → log ≡ record { names = log.names; statements = log.statements ++ [] }
unchanged log =
    let with_statements : List Statement → Accepted = λ statements. record { names = log.names; statements = statements } in
    ap with_statements (sym (append-nil log.statements))

-- the heading adds nothing, and sets the version
pub headed : (log : Accepted) → in_version Version.Two log ≡ with_reading log the_heading
headed log = unchanged (in_version Version.Two log)

-- the lines so far, and one more
pub log_step : (earlier : List ParsedLine) (reading : ParsedLine) (log new : Accepted) (lines more : List LineOutcome) (line : LineOutcome)
    → IsLogOf earlier log lines → line ≡ line_outcome log.names reading → new ≡ with_reading log reading → more ≡ lines ++ line ∷ []
    → IsLogOf (earlier ++ reading ∷ []) new more
log_step earlier reading log new lines more line so line_is new_is more_is = record {
  names = ap (λ (l : Accepted). l.names) new_is ∙ ap (λ (n : Names). names_with n reading) so.names ∙ sym (names_after-append no_names earlier (reading ∷ []));
  statements = ap (λ (l : Accepted). l.statements) new_is
      ∙ ap (λ (xs : List Statement). xs ++ accepted log.names reading) so.statements
      ∙ ap (λ (n : Names). log_of no_names earlier ++ accepted n reading) so.names
      ∙ ap (λ (xs : List Statement). log_of no_names earlier ++ xs) (sym (append-nil (accepted (names_after no_names earlier) reading)))
      ∙ sym (log_of-append no_names earlier (reading ∷ []));
  each = more_is
      ∙ ap (λ (b : LineOutcome). lines ++ b ∷ []) line_is
      ∙ ap (λ (bs : List LineOutcome). bs ++ line_outcome log.names reading ∷ []) so.each
      ∙ ap (λ (n : Names). line_outcomes no_names earlier ++ line_outcome n reading ∷ []) so.names
      ∙ sym (line_outcomes-append no_names earlier (reading ∷ []));
}

-- how many places there are after a line
places_if : (names : Names) (sentence : Sentence) (o : Option Refused) → names.places + places_of (outcome_unless o) ≡ (names_if names sentence o).places
places_if names sentence None = refl
places_if names sentence (Some refused) = omega arith

places_with : (names : Names) (reading : ParsedLine) → names.places + places_of (line_outcome names reading) ≡ (names_with names reading).places
places_with names the_heading = omega arith
places_with names (read sentence) = places_if names sentence (refusal names sentence)
places_with names (faulty fault) = omega arith

-- the report's line for a line, by what it became
text_same_if : (log : List Statement) (all : Names) (number place : ℕ) (o : Option Refused) → text_if log all number place o ≡ line_outcome_text log all number place (outcome_unless o)
text_same_if log all number place None = refl
text_same_if log all number place (Some refused) = refl

text_same : (log : List Statement) (all : Names) (number : ℕ) (names : Names) (reading : ParsedLine) → line_text log all number names reading ≡ line_outcome_text log all number names.places (line_outcome names reading)
text_same log all number names the_heading = refl
text_same log all number names (read sentence) = text_same_if log all number names.places (refusal names sentence)
text_same log all number names (faulty fault) = refl

-- the report of some lines, by what they became
report_same : (log : List Statement) (all : Names) (number : ℕ) (names : Names) (readings : List ParsedLine)
    → report_from log all number names readings ≡ report_text log all number names.places (line_outcomes names readings)
report_same log all number names [] = refl
report_same log all number names (reading ∷ readings) =
    ap (λ (t : List ℕ). t ++ report_from log all (number + 1) (names_with names reading) readings) (text_same log all number names reading)
    ∙ ap (λ (t : List ℕ). line_outcome_text log all number names.places (line_outcome names reading) ++ t) (report_same log all (number + 1) (names_with names reading) readings)
    ∙ ap (λ (p : ℕ). line_outcome_text log all number names.places (line_outcome names reading) ++ report_text log all (number + 1) p (line_outcomes (names_with names reading) readings))
    (sym (places_with names reading))

-- the report of a log that was collected is the report of its text
pub report_is : (input : List ℕ) (log : Accepted) (lines : List LineOutcome) → Collects input log lines → IsReport input (log_text log lines)
report_is input log lines collects =
    let readings : List ParsedLine = collects.0 in
    let so : IsLogOf readings log lines = collects.1.1 in
    let statements : List Statement = log_of no_names readings in (
      readings,
      (
        collects.1.0,
        ap (λ (xs : List Statement). report_text xs log.names 1 0 lines) so.statements
            ∙ ap (λ (n : Names). report_text statements n 1 0 lines) so.names
            ∙ ap (λ (bs : List LineOutcome). report_text statements (names_after no_names readings) 1 0 bs) so.each
            ∙ sym (report_same statements (names_after no_names readings) 1 no_names readings),
      ),
    )
