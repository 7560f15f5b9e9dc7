use Rattle.words.specs.Views.{with_all_placed}
use Rattle.words.proofs.Plays.{goes_to}
use Rattle.words.proofs.table.BatchWords.settle_fronts.Given as goal

abbrev pub ghosts-get : goal.ghosts-get
ghosts-get g a = record { then = λ _ m found n. goes_to (with_all_placed m.0) m found n }
