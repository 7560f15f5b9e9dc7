use Rattle.body.proofs.Shapes.{logs_have_shape}
use Rattle.body.proofs.laws.logs_have_shape.Goals as goal

pub returns : goal.returns
returns c = logs_have_shape
