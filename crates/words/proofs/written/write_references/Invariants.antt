use Rattle.words.specs.Written.{IsWritten}
use Rattle.words.proofs.written.write_references.Given as goal

abbrev pub invariant-loop-number : goal.invariant-loop-number
invariant-loop-number g l = IsWritten (g.K.BatchData.batch l.key) (g.K.BatchData.listed l.key) l.row l.index l.number 0
