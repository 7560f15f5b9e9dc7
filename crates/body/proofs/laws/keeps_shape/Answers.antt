use Rattle.body.proofs.Shapes.{keeps_shape}
use Rattle.body.proofs.laws.keeps_shape.Goals as goal

pub returns : goal.returns
returns c = keeps_shape
