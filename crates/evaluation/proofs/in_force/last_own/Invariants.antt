use Rattle.std.proofs.Common.{◌-◌, ◌≡◌, ◌≤◌, length}
use Rattle.bohm_core_base.specs.Batch.{batch_slots}
use Rattle.log_batch.specs.Earlier.{earlier_count}
use Rattle.log_batch.specs.Supplied.{batch_of}
use Rattle.evaluation.specs.Seen.{seen_at, seen_view}
use Rattle.evaluation.specs.Sought.{IsLastEnd, is_sought}
use Rattle.std.specs.Prelude.{nat_lt}
use Rattle.evaluation.proofs.in_force.last_own.Given as goal

-- the last end of the slots so far
abbrev pub invariant-loop-from : goal.invariant-loop-from
invariant-loop-from g l = record {
  source : g.T.ReadSource.as_reader l.source ≡ g.T.ReadSource.as_reader l.initial.source;
  kept : g.T.ReadSource.work l.source ≡ g.T.ReadSource.work l.initial.source;
  count : l.count ≡ length (batch_slots (batch_of l.batch));
  own : earlier_count (batch_of l.batch) ≤ l.from;
  last : IsLastEnd (is_sought l.sought) (seen_view (seen_at l.batch (g.T.ReadSource.as_reader l.initial.source).index)) (λ k. nat_lt k l.from) l.place;
}

abbrev pub decreases-loop-from : goal.decreases-loop-from
decreases-loop-from g l = l.count - l.from
