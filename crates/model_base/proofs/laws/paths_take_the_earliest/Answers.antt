use Rattle.model_base.proofs.Paths.{path-earliest, path-none, path-owner}
use Rattle.model_base.proofs.laws.paths_take_the_earliest.Goals as goal

pub returns : goal.returns
returns c = record {
  owner = path-owner;
  earliest = path-earliest;
  none = path-none;
}
