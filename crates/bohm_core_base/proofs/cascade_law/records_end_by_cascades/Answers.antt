use Rattle.bohm_core_base.proofs.Cascades.{ends-by-cascade}
use Rattle.bohm_core_base.proofs.cascade_law.records_end_by_cascades.Goals as goal

pub returns : goal.returns
returns c batch index slot sound within ends = ends-by-cascade batch sound slot within index ends
