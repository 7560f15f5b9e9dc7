use Rattle.std.proofs.Common.{Some}
use Rattle.filling.proofs.ends.ends_of.Given as goal

-- these words, and what the pass knows now
abbrev pub ghosts-names_told : goal.ghosts-names_told
ghosts-names_told a = record { words = Some a.words.now; known = a.holding.view.known }
