use Rattle.std.proofs.Common.{◌≡◌, ℕ}
use Rattle.std.specs.VecDeque.{deque_len}
use Rattle.chains.specs.Kept.{AreWrittenInOrder}
use Rattle.chains.proofs.Cutting.{low_writes}
use Rattle.chains.proofs.writes.cut_writes.Given as goal

-- the writes below the place stay
abbrev pub invariant-loop-write : goal.invariant-loop-write
invariant-loop-write l = record {
  below : low_writes l.first l.writes.items ≡ low_writes l.first l.initial.writes.items;
  rising : (from end : ℕ) → AreWrittenInOrder from end l.initial.writes.items → AreWrittenInOrder from end l.writes.items;
}

abbrev pub decreases-loop-write : goal.decreases-loop-write
decreases-loop-write l = deque_len l.writes
