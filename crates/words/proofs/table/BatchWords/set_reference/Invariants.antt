use Rattle.words.specs.Views.{with_stored}
use Rattle.words.proofs.Plays.{goes_to}
use Rattle.words.proofs.table.BatchWords.set_reference.Given as goal

abbrev pub ghosts-put : goal.ghosts-put
ghosts-put g a = record { then = λ _ m found n. goes_to (with_stored m.0 a._number) m found n }
