use Rattle.filling_base.proofs.Learning as learning
use Rattle.filling_base.proofs.laws.learning_comes_before_storing.Goals as goal

pub returns : goal.returns
returns c = record {
  found = learning.found;
  stands = learning.stands;
  again = learning.again;
  holds = learning.holds;
  finishes = learning.finishes;
}
