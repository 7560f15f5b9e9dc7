use Rattle.model_base.proofs.Causes.{cause-never, cause-taken}
use Rattle.model_base.proofs.laws.causes_are_last_losses.Goals as goal

pub returns : goal.returns
returns c = record {
  never = λ owners deeds user need. cause-never owners user need deeds;
  taken = λ owners deeds user need. cause-taken owners user need deeds;
}
