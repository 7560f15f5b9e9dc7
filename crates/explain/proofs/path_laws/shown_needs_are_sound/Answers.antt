use Rattle.explain.proofs.Showing.{shown-sound}
use Rattle.explain.proofs.path_laws.shown_needs_are_sound.Goals as goal

pub returns : goal.returns
returns c = shown-sound
