use Rattle.bohm_core_base.proofs.InOrder.{slots-order}
use Rattle.bohm_core_base.proofs.ending_law.slots_stand_in_order.Goals as goal

pub returns : goal.returns
returns c batch slot other grant later sound less at behind = slots-order batch sound slot other grant later less at behind
