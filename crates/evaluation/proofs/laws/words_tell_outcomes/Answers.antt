use Rattle.evaluation.proofs.Fitting.{words_tell}
use Rattle.evaluation.proofs.laws.words_tell_outcomes.Goals as goal

pub returns : goal.returns
returns c = words_tell
