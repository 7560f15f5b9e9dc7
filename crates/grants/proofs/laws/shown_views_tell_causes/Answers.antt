use Rattle.grants.proofs.LossLaws.{cause_told}
use Rattle.grants.proofs.laws.shown_views_tell_causes.Goals as goal

pub returns : goal.returns
returns c = cause_told
