use Rattle.body.proofs.Within.{ends_within}
use Rattle.body.proofs.laws.ends_within_steps.Goals as goal

pub returns : goal.returns
returns c = ends_within
