use Rattle.model_base.proofs.Growth.{deeds_before-stands}
use Rattle.model_base.proofs.laws.deeds_before_are_proper.Goals as goal

pub returns : goal.returns
returns c = record {
  proper = λ log place. (deeds_before-stands log place).proper;
  below = λ log place. (deeds_before-stands log place).below;
}
