use Rattle.explain.proofs.RisingPlaces.{one-before, path-rises}
use Rattle.explain.proofs.path_laws.places_rise_along_paths.Goals as goal

pub returns : goal.returns
returns c = record {
  rise = path-rises;
  one = one-before;
}
