use Rattle.model_base.proofs.Records.{records-grant, records-revoke}
use Rattle.model_base.proofs.record_laws.deeds_change_records.Goals as goal

pub returns : goal.returns
returns c = record {
  granting = records-grant;
  revoking = records-revoke;
}
