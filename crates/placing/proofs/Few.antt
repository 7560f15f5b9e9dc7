-- No statement of a log has more than sixteen accesses.
use Rattle.std.proofs.Common.{◌≤◌, length, arith}
use Rattle.std.specs.Prelude.{All}
use Rattle.std.proofs.lemmas.List.Elements.{All-weaker}
use Rattle.model_base.specs.declared.statement.Form.{Form}
use Rattle.model_base.specs.declared.statement.Statement.{Statement}
use Rattle.model_base.specs.Versions.{accesses_of}
use Rattle.body.specs.Premises.{HasFittingBody}
use Rattle.sequencer.specs.Log.{Accepted}
use Rattle.sequencer.specs.Whole.{IsAccepted, IsWhole}

few : (form : Form) → HasFittingBody form → length (accesses_of form) ≤ 16
few (Form.Create table columns) fits = omega arith
few (Form.Run accesses steps deed) fits = fits.places
few (Form.Deed deed) fits = omega arith

pub few_accesses : (log : Accepted) → IsWhole log → All (λ (statement : Statement). length (accesses_of statement.form) ≤ 16) log.statements
few_accesses log whole =
    All-weaker (IsAccepted log.names) (λ (statement : Statement). length (accesses_of statement.form) ≤ 16) (λ statement taken. few statement.form taken.runnable)
    log.statements whole.taken
