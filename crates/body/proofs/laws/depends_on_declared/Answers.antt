use Rattle.body.proofs.Depending.{depends_on_declared}
use Rattle.body.proofs.laws.depends_on_declared.Goals as goal

pub returns : goal.returns
returns c = depends_on_declared
