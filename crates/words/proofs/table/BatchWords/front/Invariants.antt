use Rattle.words.proofs.Plays.{front_then}
use Rattle.words.proofs.table.BatchWords.front.Given as goal

abbrev pub ghosts-get : goal.ghosts-get
ghosts-get g a = record { then = λ _ m found n. front_then (g.K.BatchData.batch a.self.now.key) a._index m found n }
