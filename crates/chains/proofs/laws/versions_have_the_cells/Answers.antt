use Rattle.chains.proofs.Order.{cells-at}
use Rattle.chains.proofs.laws.versions_have_the_cells.Goals as goal

pub returns : goal.returns
returns c = cells-at
