use Rattle.model_base.proofs.Parts.{part-kept_revoke}
use Rattle.model_base.proofs.laws.revocations_add_none.Goals as goal

pub returns : goal.returns
returns c = part-kept_revoke
