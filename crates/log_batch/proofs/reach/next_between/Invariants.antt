use Rattle.std.proofs.Common.{◌-◌, ◌≤◌}
use Rattle.grants_base.specs.Force.{gives_by}
use Rattle.grants_base.specs.Index.{passes_at}
use Rattle.log_batch.specs.Earlier.{earlier_count, earlier_grants}
use Rattle.log_batch.specs.Supplied.{batch_of}
use Rattle.log_batch.proofs.NoneBetween.{NoneBetween}
use Rattle.log_batch.proofs.reach.next_between.Given as goal

-- no slot so far is one of the user's
abbrev pub invariant-loop-slot : goal.invariant-loop-slot
invariant-loop-slot l = record {
  start : l.start ≤ l.from;
  passed : NoneBetween (passes_at (gives_by l.user l.holder.grantee l.holder.kind l.holder.table) (earlier_grants (batch_of l.batch))) l.start l.from;
}

abbrev pub decreases-loop-slot : goal.decreases-loop-slot
decreases-loop-slot l = earlier_count (batch_of l.batch) - l.from
