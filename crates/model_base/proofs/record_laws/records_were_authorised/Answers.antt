use Rattle.model_base.proofs.Losses.{records-authorised, records-authorised_by}
use Rattle.model_base.proofs.record_laws.records_were_authorised.Goals as goal

pub returns : goal.returns
returns c = record {
  deeds = records-authorised;
  records = records-authorised_by;
}
