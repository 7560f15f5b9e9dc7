use Rattle.bohm_base.proofs.Beginnings.{parts}
use Rattle.batched_text.proofs.Reports.{longer}
use Rattle.batched_text.proofs.laws.reports_stand.Goals as goal

pub returns : goal.returns
returns c = record {
  longer = λ log more later number place lines whole begins same less. longer log whole more later begins same number place lines less;
  parts = parts;
}
