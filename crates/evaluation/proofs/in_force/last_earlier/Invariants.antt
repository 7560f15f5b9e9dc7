use Rattle.std.proofs.Common.{◌-◌, ◌≡◌}
use Rattle.log_batch.specs.Earlier.{earlier_count}
use Rattle.log_batch.specs.Supplied.{batch_of}
use Rattle.evaluation.specs.Seen.{seen_at, seen_view}
use Rattle.evaluation.specs.Sought.{IsLastEnd, is_sought}
use Rattle.evaluation.proofs.Steps.{looked_in}
use Rattle.evaluation.proofs.in_force.last_earlier.Given as goal

-- the last end of the slots so far, and of all that had ended as the batch began
abbrev pub invariant-loop-from : goal.invariant-loop-from
invariant-loop-from g l = record {
  source : g.T.ReadSource.as_reader l.source ≡ g.T.ReadSource.as_reader l.initial.source;
  kept : g.T.ReadSource.work l.source ≡ g.T.ReadSource.work l.initial.source;
  count : l.count ≡ earlier_count (batch_of l.batch);
  last : IsLastEnd (is_sought l.sought) (seen_view (seen_at l.batch (g.T.ReadSource.as_reader l.initial.source).index)) (looked_in l.batch (is_sought l.sought) l.from) l.place;
}

abbrev pub decreases-loop-from : goal.decreases-loop-from
decreases-loop-from g l = l.count - l.from
