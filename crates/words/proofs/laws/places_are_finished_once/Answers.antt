use Rattle.words.proofs.Once.{finished-once}
use Rattle.words.proofs.laws.places_are_finished_once.Goals as goal

pub returns : goal.returns
returns c batch events index sound works = finished-once batch sound events index works
