use Rattle.bohm_core_base.proofs.Concerned.{ends-by-revocation}
use Rattle.bohm_core_base.proofs.ending_law.records_end_by_revocations.Goals as goal

pub returns : goal.returns
returns c batch index slot sound within ends = ends-by-revocation batch sound slot within index ends
