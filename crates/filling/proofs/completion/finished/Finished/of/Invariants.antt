use Rattle.filling.specs.Finished.{IsFinished}
use Rattle.filling.proofs.completion.finished.Finished.of.Given as goal

-- the places so far
abbrev pub invariant-loop-index : goal.invariant-loop-index
invariant-loop-index l = IsFinished l.batch.log.statements l.batch.first l.index l.book l.done
