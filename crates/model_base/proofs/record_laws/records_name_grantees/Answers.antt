use Rattle.model_base.proofs.Granted.{granted-later, granted-named, kept-granted, revoked-granted}
use Rattle.model_base.proofs.record_laws.records_name_grantees.Goals as goal

pub returns : goal.returns
returns c = record {
  granted = granted-named;
  revoked = revoked-granted;
  kept = kept-granted;
  later = granted-later;
}
