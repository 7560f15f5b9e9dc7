use Rattle.model_base.proofs.Causes.{cause-revocation}
use Rattle.model_base.proofs.laws.causes_are_revocations.Goals as goal

pub returns : goal.returns
returns c = λ owners deeds user need. cause-revocation owners user need deeds
