-- The log and the names of lines and of others after them, the version after a line, and the report's line for a place.
use Rattle.std.proofs.Common.{◌≡◌, ℕ, List, [], ◌∷◌, ◌++◌, Option, Some, None, refl, ap, sym, ◌∙◌, append_assoc}
use Rattle.std.specs.Prelude.{slice_get}
use Rattle.model_base.specs.declared.statement.Statement.{Statement}
use Rattle.model_base.specs.declared.outcome.Outcome.{Outcome}
use Rattle.model_base.specs.Outcomes.{outcome}
use Rattle.log_text.specs.Statement.{Sentence}
use Rattle.log_text.specs.declared.statement.RawForm.{RawForm}
use Rattle.sequencer.specs.Catalog.{Names, with_form}
use Rattle.sequencer.specs.Names.{number_of}
use Rattle.sequencer.specs.Refusal.{refusal}
use Rattle.sequencer.specs.declared.refused.Refused.{Refused}
use Rattle.report.specs.Text.{outcome_text}
use Rattle.report.specs.Report.{ParsedLine, the_heading, read, faulty, accepted, log_of, names_after, names_if, names_with, place_text, text_of, version_with}

pub names_after-append : (names : Names) (xs ys : List ParsedLine) → names_after names (xs ++ ys) ≡ names_after (names_after names xs) ys
names_after-append names [] ys = refl
names_after-append names (x ∷ xs) ys = names_after-append (names_with names x) xs ys

pub log_of-append : (names : Names) (xs ys : List ParsedLine) → log_of names (xs ++ ys) ≡ log_of names xs ++ log_of (names_after names xs) ys
log_of-append names [] ys = refl
log_of-append names (x ∷ xs) ys =
    ap (λ (log : List Statement). accepted names x ++ log) (log_of-append (names_with names x) xs ys)
    ∙ sym (append_assoc (accepted names x) (log_of (names_with names x) xs) (log_of (names_after (names_with names x) xs) ys))

-- the report's line for a place
pub place_spelled : (log : List Statement) (names : Names) (place : ℕ) (statement : Statement) (found_is : Outcome)
    → slice_get log place ≡ Some statement → outcome log place ≡ Some found_is → outcome_text log names place statement.form found_is ≡ place_text log names place
place_spelled log names place statement found_is stands is =
    sym (ap (λ (s : Option Statement). text_of log names place s (outcome log place)) stands ∙ ap (text_of log names place (Some statement)) is)

-- the version after a line is the one that the line leaves or sets
version-with_form : (names : Names) (user : ℕ) (form : RawForm) → (with_form names user form).version ≡ names.version
version-with_form names user (RawForm.Create table columns) = refl
version-with_form names user (RawForm.Run accesses steps deed) = refl
version-with_form names user (RawForm.Deed deed) = refl

version-if : (names : Names) (sentence : Sentence) (refused : Option Refused) → (names_if names sentence refused).version ≡ names.version
version-if names sentence None = version-with_form names (number_of names.users sentence.user) sentence.form
version-if names sentence (Some refused) = refl

pub version-with : (names : Names) (reading : ParsedLine) → (names_with names reading).version ≡ version_with names.version reading
version-with names the_heading = refl
version-with names (read sentence) = version-if names sentence (refusal names sentence)
version-with names (faulty fault) = refl
