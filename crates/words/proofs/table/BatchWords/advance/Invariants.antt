use Rattle.words.specs.Views.{with_placing}
use Rattle.words.proofs.Plays.{goes_to}
use Rattle.words.proofs.table.BatchWords.advance.Given as goal

abbrev pub ghosts-put : goal.ghosts-put
ghosts-put g a = record { then = λ _ m found n. goes_to (with_placing m.0) m found n }
