use Rattle.words.proofs.Taking.{claimed-holds, ended-holds, filled-holds, finished-holds, given_back-holds, held-other, holds-once, holds-other}
use Rattle.words.proofs.laws.own_events_tell_what_is_held.Goals as goal

pub returns : goal.returns
returns c = record {
  claimed = claimed-holds;
  filled = filled-holds;
  ended = ended-holds;
  finished = finished-holds;
  given_back = given_back-holds;
  others = holds-other;
  no_others = held-other;
  once = holds-once;
}
