use Rattle.model_base.proofs.Growth.{deeds_before-grows}
use Rattle.model_base.proofs.laws.places_make_grants_or_one_revocation.Goals as goal

pub returns : goal.returns
returns c = deeds_before-grows
