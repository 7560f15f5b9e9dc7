use Rattle.std.proofs.Common.{Some}
use Rattle.filling.proofs.fill.RangeKeyFills.fill.Given as goal

-- these words, and what the pass knows now
abbrev pub ghosts-own_told : goal.ghosts-own_told
ghosts-own_told a = record { words = Some a.words.now; known = a.holding.view.known }
