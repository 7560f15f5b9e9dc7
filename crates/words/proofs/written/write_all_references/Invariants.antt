use Rattle.words.specs.Written.{IsWritten}
use Rattle.words.proofs.written.write_all_references.Given as goal

abbrev pub invariant-loop-index : goal.invariant-loop-index
invariant-loop-index g l = IsWritten (g.K.BatchData.batch l.key) (g.K.BatchData.listed l.key) l.row l.index 0 0
