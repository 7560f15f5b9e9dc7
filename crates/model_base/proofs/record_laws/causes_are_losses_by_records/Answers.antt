use Rattle.model_base.proofs.Losses.{cause-records, cause-records_whole}
use Rattle.model_base.proofs.record_laws.causes_are_losses_by_records.Goals as goal

pub returns : goal.returns
returns c = record {
  all = λ owners deeds user need. cause-records_whole owners user need deeds;
  below = λ owners deeds user need. cause-records owners user need deeds;
}
