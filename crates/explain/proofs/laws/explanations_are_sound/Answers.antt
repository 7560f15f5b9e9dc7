use Rattle.explain.proofs.Lines.{explained-sound}
use Rattle.explain.proofs.laws.explanations_are_sound.Goals as goal

pub returns : goal.returns
returns c = explained-sound
