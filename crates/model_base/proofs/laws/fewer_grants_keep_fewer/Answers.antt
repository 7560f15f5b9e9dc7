use Rattle.model_base.proofs.Parts.{part-kept_fewer, part-replayed_part, part-gives}
use Rattle.model_base.proofs.laws.fewer_grants_keep_fewer.Goals as goal

pub returns : goal.returns
returns c = record {
  deeds = part-kept_fewer;
  replayed = λ owners standing wider fewer more still part. part-replayed_part owners standing wider (part-gives owners still) part;
}
