use Rattle.explain.proofs.Asked.{lines-sound}
use Rattle.explain.proofs.line_laws.explained_needs_are_sound.Goals as goal

pub returns : goal.returns
returns c = λ owners deeds place user needs proper one. lines-sound owners deeds place user proper one needs
