use Rattle.words.proofs.Plays.{finishes}
use Rattle.words.proofs.table.BatchWords.finish_place.Given as goal

abbrev pub ghosts-put : goal.ghosts-put
ghosts-put g a = record { then = λ _ m found n. finishes a.seat.now.id a._index m found n }
