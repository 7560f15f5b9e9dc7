use Rattle.body.proofs.Shapes.{keeps_columns}
use Rattle.body.proofs.laws.keeps_columns.Goals as goal

pub returns : goal.returns
returns c = keeps_columns
