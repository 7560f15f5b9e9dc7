use Rattle.log_batch.specs.Supplied.{batch_of}
use Rattle.log_batch.specs.Reach.{IsReach}
use Rattle.log_batch.proofs.reach.Reach.of.Given as goal

abbrev pub invariant-loop-slot : goal.invariant-loop-slot
invariant-loop-slot l = IsReach (batch_of l.batch) l.slot l.reach
