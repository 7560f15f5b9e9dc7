use Rattle.bohm_core_base.proofs.Reach.{unended-stays}
use Rattle.bohm_core_base.proofs.ending_law.other_records_keep_their_ends.Goals as goal

pub returns : goal.returns
returns c batch slot sound within none = unended-stays batch sound slot within none
