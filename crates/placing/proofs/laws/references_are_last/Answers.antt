use Rattle.placing.proofs.Last.{is_last}
use Rattle.placing.proofs.laws.references_are_last.Goals as goal

pub returns : goal.returns
returns c = is_last
