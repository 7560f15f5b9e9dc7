use Rattle.std.proofs.Common.{ap}
use Rattle.model_base.specs.Outcomes.{World}
use Rattle.model_base.proofs.Growing.{batch-stands, cells-stand, outcome-stands, prior-stands, references-stand, world-stands, writer-stands}
use Rattle.model_base.proofs.growing_laws.earlier_places_stand.Goals as goal

pub returns : goal.returns
returns c = record {
  world = world-stands;
  rows = λ log more place own low. ap (λ (world : World). world.rows) (world-stands log more place own low);
  deeds = λ log more place own low. ap (λ (world : World). world.deeds) (world-stands log more place own low);
  outcome = outcome-stands;
  cells = cells-stand;
  writer = writer-stands;
  prior = prior-stands;
  references = references-stand;
  batch = batch-stands;
}
