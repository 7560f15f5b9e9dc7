use Rattle.body.proofs.Frame.{leaves_unwritten}
use Rattle.body.proofs.laws.leaves_unwritten.Goals as goal

pub returns : goal.returns
returns c = leaves_unwritten
