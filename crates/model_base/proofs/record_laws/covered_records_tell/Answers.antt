use Rattle.model_base.proofs.ByTables.{cut-covered, holds_by-covered, last_loss-covered}
use Rattle.model_base.proofs.record_laws.covered_records_tell.Goals as goal

pub returns : goal.returns
returns c = record {
  held = holds_by-covered;
  lost = last_loss-covered;
  cut = cut-covered;
}
