use Rattle.std.proofs.Common.{◌-◌, ◌≡◌, ◌≤◌}
use Rattle.log_batch.specs.Earlier.{earlier_count}
use Rattle.log_batch.specs.Supplied.{batch_of}
use Rattle.evaluation.specs.Sought.{is_sought}
use Rattle.log_batch.proofs.NoneBetween.{NoneBetween}
use Rattle.evaluation.proofs.Steps.{early_in}
use Rattle.evaluation.proofs.in_force.next_earlier.Given as goal

-- no slot so far is such a one
abbrev pub invariant-loop-from : goal.invariant-loop-from
invariant-loop-from g l = record {
  source : g.T.ReadSource.as_reader l.source ≡ g.T.ReadSource.as_reader l.initial.source;
  kept : g.T.ReadSource.work l.source ≡ g.T.ReadSource.work l.initial.source;
  count : l.count ≡ earlier_count (batch_of l.batch);
  start : l.start ≤ l.from;
  passed : NoneBetween (early_in l.batch (g.T.ReadSource.as_reader l.initial.source).index (is_sought l.sought)) l.start l.from;
}

abbrev pub decreases-loop-from : goal.decreases-loop-from
decreases-loop-from g l = l.count - l.from
