-- The report of some lines stands when more comes after their log.
use Rattle.std.proofs.Common.{◌≡◌, ◌<◌, ◌≤◌, ◌+◌, ◌++◌, ℕ, suc, List, [], ◌∷◌, Option, Some, None, get_or, length, refl, ap, sym, ◌∙◌, subst, arith, append_assoc}
use Rattle.std.specs.Prelude.{All, slice_get}
use Rattle.std.proofs.lemmas.Option.{slice_get-get_or}
use Rattle.std.proofs.lemmas.List.Elements.{All-weaker}
use Rattle.model_base.specs.declared.outcome.Outcome.{Outcome}
use Rattle.model_base.specs.declared.statement.Statement.{Statement}
use Rattle.model_base.specs.Outcomes.{outcome, owners}
use Rattle.sequencer.specs.Catalog.{Names}
use Rattle.sequencer.specs.Foretelling.{Begins}
use Rattle.sequencer.specs.Log.{Accepted}
use Rattle.sequencer.specs.Whole.{IsAccepted, IsWhole}
use Rattle.report.specs.Report.{place_text, text_of}
use Rattle.report.specs.Text.{records_listed}
use Rattle.bohm_base.specs.Collecting.{line_outcome_text, places_in, places_of, report_text}
use Rattle.bohm_base.specs.declared.collecting.LineOutcome.{LineOutcome}
use Rattle.bohm_base.proofs.Named.{outcome-named}
use Rattle.model_base.specs.Growing.{NeedsOwnTables, NeedsWithin}
use Rattle.model_base.proofs.Growing.{get-front, outcome-stands}
use Rattle.bohm_base.proofs.Reporting.{granted-known, outcome-granted, text-longer}

pub needs-own : (log : Accepted) → IsWhole log → NeedsOwnTables log.statements
needs-own log whole =
    let count : length log.names.tables ≡ length (owners log.statements) = sym whole.owned ∙ ap length whole.owners in
    subst (λ (n : ℕ). All (NeedsWithin n) log.statements) count
    (All-weaker (IsAccepted log.names) (NeedsWithin (length log.names.tables)) (λ statement taken. taken.needs) log.statements whole.taken)

module _ (log : Accepted) (whole : IsWhole log) (more : List Statement) (later : Names) (begins : Begins log.names later) (same : later.version ≡ log.names.version) where
  abbrev all : List Statement
  all = log.statements ++ more

  text-same : (place : ℕ) (statement : Option Statement) (found : Option Outcome) → outcome log.statements place ≡ found
      → text_of all later place statement found ≡ text_of log.statements log.names place statement found
  text-same place (Some statement) (Some o) is =
      text-longer log.statements more log.names later begins same place statement.form o (outcome-named log place o whole is)
      (granted-known log whole place (records_listed o) (outcome-granted log.statements place o is))
  text-same place (Some statement) None is = refl
  text-same place None found is = refl

  pub place-same : (place : ℕ) → place < length log.statements → place_text all later place ≡ place_text log.statements log.names place
  place-same place less =
      ap (λ (s : Option Statement). text_of all later place s (outcome all place)) (get-front log.statements more place less)
      ∙ ap (text_of all later place (slice_get log.statements place)) (outcome-stands log.statements more place (needs-own log whole) less)
      ∙ text-same place (slice_get log.statements place) (outcome log.statements place) refl

  line-same : (number place : ℕ) (line : LineOutcome) → place + places_of line ≤ length log.statements
      → line_outcome_text all later number place line ≡ line_outcome_text log.statements log.names number place line
  line-same number place LineOutcome.Heading less = refl
  line-same number place LineOutcome.Accepted less = place-same place (omega (arith, less))
  line-same number place (LineOutcome.Faulty fault) less = refl
  line-same number place (LineOutcome.Refused refused) less = refl

  pub longer : (number place : ℕ) (lines : List LineOutcome) → place + places_in lines ≤ length log.statements
      → report_text all later number place lines ≡ report_text log.statements log.names number place lines
  longer number place [] less = refl
  longer number place (line ∷ lines) less =
      ap (λ t. t ++ report_text all later (number + 1) (place + places_of line) lines) (line-same number place line (omega (arith, less)))
      ∙ ap (λ t. line_outcome_text log.statements log.names number place line ++ t) (longer (number + 1) (place + places_of line) lines (omega (arith, less)))

-- what is looked up in the statements of a log is there
pub looked : (statements all : List Statement) (place : ℕ) (statement : Statement) → statements ≡ all → place < length all
    → statement ≡ get_or statements place statement → slice_get all place ≡ Some statement
looked statements all place statement same low is =
    slice_get-get_or all place statement low ∙ ap Some (sym (is ∙ ap (λ (xs : List Statement). get_or xs place statement) same))
