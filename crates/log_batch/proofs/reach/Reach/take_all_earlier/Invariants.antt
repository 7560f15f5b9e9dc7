use Rattle.std.proofs.Common.{◌-◌, ◌≤◌}
use Rattle.log_batch.specs.Earlier.{earlier_count}
use Rattle.log_batch.specs.Supplied.{batch_of}
use Rattle.log_batch.specs.Reach.{IsDue, IsReach}
use Rattle.log_batch.proofs.reach.Reach.take_all_earlier.Given as goal

-- the slots below the next one are found, and what is due is what is still to be found before the batch
abbrev pub invariant-loop-slot : goal.invariant-loop-slot
invariant-loop-slot l = record {
  reach : IsReach (batch_of l.batch) l.low l.self;
  due : IsDue (batch_of l.batch) l.low l.self.slots.items l.due.keys;
  low : l.low ≤ earlier_count (batch_of l.batch);
}

abbrev pub decreases-loop-slot : goal.decreases-loop-slot
decreases-loop-slot l = earlier_count (batch_of l.batch) - l.low
