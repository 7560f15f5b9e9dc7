use Rattle.log_batch.specs.Supplied.{batch_of}
use Rattle.filling.specs.BatchProgress.{IsDoneTo, NotesEndsOfDone}
use Rattle.filling.proofs.completion.running.complete_all.Given as goal

-- the places below stand, and the ends of those that are done in the closed batch are given
abbrev pub invariant-loop-index : goal.invariant-loop-index
invariant-loop-index l = record {
  stands : IsDoneTo (batch_of l.completion.batch.now) l.index l.progress;
  done : NotesEndsOfDone (batch_of l.completion.batch.now) l.completion.closed.now l.progress.ends;
}
