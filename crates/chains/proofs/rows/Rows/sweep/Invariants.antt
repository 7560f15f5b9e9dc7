use Rattle.std.proofs.Common.{◌≡◌, None, ℕ, ◌+◌, ◌≤◌, length}
use Rattle.std.specs.VecDeque.{deque_len}
use Rattle.model_base.specs.declared.row.Key.{Key}
use Rattle.chains.specs.Kept.{AreNoted, IsStoreKept}
use Rattle.chains.specs.Store.{newest_or, of_key, swept}
use Rattle.chains.proofs.rows.Rows.sweep.Given as goal

-- what is left results in the same when it is swept, and this many versions went
abbrev pub invariant-loop-write : goal.invariant-loop-write
invariant-loop-write l = record {
  left : (key : Key) → swept l.mark (of_key key l.self.versions) ≡ swept l.mark (of_key key l.initial.self.versions);
  newest : (place : ℕ) (key : Key) → newest_or None l.self.versions place key ≡ newest_or None l.initial.self.versions place key;
  kept :
      (end : ℕ) → IsStoreKept l.initial.self l.initial.absent.items l.mark end
      → IsStoreKept l.self l.absent.items l.mark end;
  noted : AreNoted l.self l.absent.items;
  fewer : l.gone + deque_len l.absent ≤ deque_len l.initial.absent;
  gone : l.gone + length l.self.versions ≡ length l.initial.self.versions;
}

abbrev pub decreases-loop-write : goal.decreases-loop-write
decreases-loop-write l = deque_len l.absent
