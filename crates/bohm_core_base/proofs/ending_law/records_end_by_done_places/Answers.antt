use Rattle.bohm_core_base.proofs.Whole.{serial-only}
use Rattle.bohm_core_base.proofs.ending_law.records_end_by_done_places.Goals as goal

pub returns : goal.returns
returns c batch index slot sound within ends =
    let only = serial-only batch sound index slot within ends in
    (only.within, only.done)
