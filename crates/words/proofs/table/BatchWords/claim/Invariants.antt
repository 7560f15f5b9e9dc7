use Rattle.words.proofs.Plays.{claim_then}
use Rattle.words.proofs.table.BatchWords.claim.Given as goal

abbrev pub ghosts-exchange : goal.ghosts-exchange
ghosts-exchange g a = record { then = λ _ m found n. claim_then (g.K.BatchData.batch a.self.now.key) a.seat.now.id a._index m found n }
