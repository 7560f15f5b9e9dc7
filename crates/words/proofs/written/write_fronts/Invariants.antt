use Rattle.words.specs.Written.{IsWritten}
use Rattle.words.proofs.written.write_fronts.Given as goal

abbrev pub invariant-loop-partition : goal.invariant-loop-partition
invariant-loop-partition g l = IsWritten (g.K.BatchData.batch l.key) (g.K.BatchData.listed l.key) l.row (g.K.BatchData.batch l.key).size 0 l.partition
