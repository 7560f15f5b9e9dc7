use Rattle.std.proofs.Common.{◌≡◌, ◌++◌, drop}
use Rattle.log_batch.specs.Supplied.{batch_of}
use Rattle.filling.specs.Outcomes.{ended_ranks_at}
use Rattle.filling.proofs.outcomes.ended_list.Given as goal

-- with the ranks by the ends to come these are all
abbrev pub invariant-loop-number : goal.invariant-loop-number
invariant-loop-number l = record {
  same : l.holding ≡ l.initial.holding;
  all : l.names.items ++ ended_ranks_at (batch_of l.key.batch) (drop l.number l.key.slots) l.index ≡ ended_ranks_at (batch_of l.key.batch) l.key.slots l.index;
}
