use Rattle.model_base.proofs.Cuts.{records-cut, records-below}
use Rattle.model_base.proofs.Losses.{holds_by-cut}
use Rattle.model_base.proofs.record_laws.earlier_records_are_cut.Goals as goal

pub returns : goal.returns
returns c = record {
  beginning = records-cut;
  below = records-below;
  held = holds_by-cut;
}
