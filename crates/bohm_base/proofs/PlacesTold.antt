-- The report's line for a place, as it is appended with the grantees of the records that it lists.
use Rattle.std.proofs.Common.{◌≡◌, ◌++◌, ℕ, List, Some, ap, ◌∙◌}
use Rattle.std.specs.Prelude.{Err, Ok, OnOk, Result, map}
use Rattle.model_base.specs.RecordGrantees.{WereGranted, grantee_at}
use Rattle.model_base.specs.declared.deed.Grantee.{Grantee}
use Rattle.model_base.specs.declared.outcome.Outcome.{Outcome}
use Rattle.model_base.specs.declared.statement.Statement.{Statement}
use Rattle.log_text.specs.declared.version.Version.{Version}
use Rattle.sequencer.specs.Log.{Accepted}
use Rattle.report.specs.Report.{place_text}
use Rattle.report.specs.Text.{HaveGrantees, outcome_text, records_listed}
use Rattle.report.proofs.ReportLemmas.{place_spelled}
use Rattle.bohm_base.specs.Places.{IsFinishedAs}
use Rattle.bohm_base.proofs.Reporting.{outcome-granted}

-- these are the grantees, whether or not the version has them written
pub have_named : (version : Version) (log : List Statement) (ranks : List ℕ) (grantees : List Grantee) → map (grantee_at log) ranks ≡ map Some grantees
    → HaveGrantees version log ranks grantees
have_named Version.One log ranks grantees named = tt
have_named Version.Two log ranks grantees named = named

-- whatever log gives the records their grantees, the line is that of the outcome; so it is that of the place
pub place_told : {X E : Type 0} (log : Accepted) (place : ℕ) (statement : Statement) (found : Outcome) (grantees : List Grantee) (result : Result X E)
    (before after : List ℕ) → IsFinishedAs log place statement found
    → (WereGranted log.statements place (records_listed found) → HaveGrantees log.names.version log.statements (records_listed found) grantees)
    → OnOk result ((own : List Statement) → HaveGrantees log.names.version own (records_listed found) grantees
    → after ≡ before ++ outcome_text own log.names place statement.form found)
    → OnOk result (after ≡ before ++ place_text log.statements log.names place)
place_told log place statement found grantees (Err fault) before after is named told = tt
place_told log place statement found grantees (Ok done) before after is named told =
    told log.statements (named (outcome-granted log.statements place found is.came))
    ∙ ap (λ (t : List ℕ). before ++ t) (place_spelled log.statements log.names place statement found is.there is.came)
