use Rattle.words.proofs.Plays.{look_then}
use Rattle.words.proofs.table.BatchWords.look.Given as goal

abbrev pub ghosts-get : goal.ghosts-get
ghosts-get g a = record { then = λ _ m found n. look_then (g.K.BatchData.batch a.self.now.key) a._index m found n }
