use Rattle.filling_base.proofs.Counting as counting
use Rattle.filling_base.proofs.laws.counts_go_on.Goals as goal

pub returns : goal.returns
returns c = record {
  nothing = counting.counts-self;
  again = counting.counts-then;
  sum = counting.counted-sum;
}
