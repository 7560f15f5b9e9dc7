use Rattle.model_base.proofs.Places.{number-places, number-rises}
use Rattle.model_base.proofs.Ranked.{rank-one, rank-place, rank-places}
use Rattle.model_base.proofs.laws.ranks_follow_places.Goals as goal

pub returns : goal.returns
returns c = record {
  deeds = λ deed next less. number-rises deed next less;
  numbers = λ deed next less. number-places deed next less;
  places = λ grant other less. rank-places grant other less;
  place = λ grant. rank-place grant;
  one = λ grant other same. rank-one grant other same;
}
