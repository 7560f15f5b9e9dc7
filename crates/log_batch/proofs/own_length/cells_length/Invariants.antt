use Rattle.std.proofs.Common.{◌≡◌, ◌+◌, ◌*◌, ◌≤◌, drop, map}
use Rattle.bohm_core_base.specs.Batch.{cells_length}
use Rattle.log_batch.specs.Shown.{access_of}
use Rattle.log_batch.specs.Supplied.{batch_of}
use Rattle.log_batch.proofs.own_length.cells_length.Given as goal

-- the words of the accesses so far and of those that are left are all, at most nine for each
abbrev pub invariant-loop-access : goal.invariant-loop-access
invariant-loop-access l = record {
  counted : l.length + cells_length (batch_of l.batch).columns (map access_of (drop l.access-index l.accesses)) ≡ cells_length (batch_of l.batch).columns (map access_of l.accesses);
  few : l.length ≤ 9 * l.access-index;
}
