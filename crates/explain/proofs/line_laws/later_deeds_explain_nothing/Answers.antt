use Rattle.explain.proofs.Below.{are_sound-below, lines-below}
use Rattle.explain.proofs.line_laws.later_deeds_explain_nothing.Goals as goal

pub returns-clause-lines : goal.returns-clause-lines
returns-clause-lines c = lines-below

pub returns-clause-sound : goal.returns-clause-sound
returns-clause-sound c = are_sound-below
