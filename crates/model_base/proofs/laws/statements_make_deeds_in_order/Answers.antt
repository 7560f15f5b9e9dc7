use Rattle.model_base.proofs.Cuts.{deeds_below-whole}
use Rattle.model_base.proofs.Made.{deeds_of-one, deeds_of-placed, deeds_of-proper, deeds_of-rising}
use Rattle.model_base.proofs.laws.statements_make_deeds_in_order.Goals as goal

pub returns : goal.returns
returns c = record {
  placed = deeds_of-placed;
  one = deeds_of-one;
  rise = deeds_of-rising;
  follow = λ owners world place user form below none.
      deeds_of-proper owners place user world.deeds below (deeds_below-whole place world.deeds below) form none;
}
