use Rattle.std.proofs.Common.{◌-◌, ◌≡◌, ◌≤◌}
use Rattle.log_batch.specs.Earlier.{earlier_count}
use Rattle.log_batch.specs.Supplied.{batch_of}
use Rattle.log_batch.specs.Reach.{Adds, has_party}
use Rattle.log_batch.proofs.reach.add_grants.Given as goal

-- the slots below the next one are added
abbrev pub invariant-loop-from : goal.invariant-loop-from
invariant-loop-from l = record {
  end : l.end ≡ earlier_count (batch_of l.batch);
  start : l.start ≤ l.from;
  adds : Adds (batch_of l.batch) (has_party l.party) l.start l.from l.initial.due.keys l.due.keys;
}

abbrev pub decreases-loop-from : goal.decreases-loop-from
decreases-loop-from l = l.end - l.from
