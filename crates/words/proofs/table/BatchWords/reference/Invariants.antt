use Rattle.words.specs.Layout.{reference_at}
use Rattle.words.proofs.Plays.{reads}
use Rattle.words.proofs.table.BatchWords.reference.Given as goal

abbrev pub ghosts-get : goal.ghosts-get
ghosts-get g a = record { then = λ _ m found n. reads (reference_at (g.K.BatchData.batch a.self.now.key) a._index a._number) m found n }
