use Rattle.model_base.proofs.Ends.{records-end_above, records-end_revocation}
use Rattle.model_base.proofs.record_laws.ends_are_revocations.Goals as goal

pub returns : goal.returns
returns c = record {
  above = records-end_above;
  revocation = records-end_revocation;
}
