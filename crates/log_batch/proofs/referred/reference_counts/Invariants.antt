use Rattle.std.proofs.Common.{◌≤◌, ◌-◌}
use Rattle.log_batch.specs.Referred.{AreCounts}
use Rattle.log_batch.proofs.referred.reference_counts.Given as goal

abbrev pub invariant-loop-place : goal.invariant-loop-place
invariant-loop-place l =
    (l.fn.range.start ≤ l.place)
    × AreCounts l.log.log.statements l.fn.range.start (l.place - l.fn.range.start) l.counts.items
