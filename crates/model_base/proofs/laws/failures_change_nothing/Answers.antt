use Rattle.model_base.proofs.Failed.{failed-cells, failed-deeds, failed-rows}
use Rattle.model_base.proofs.laws.failures_change_nothing.Goals as goal

pub returns : goal.returns
returns c = record {
  rows = failed-rows;
  deeds = failed-deeds;
  cells = failed-cells;
}
