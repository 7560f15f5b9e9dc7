use Rattle.std.proofs.Common.{◌≡◌, ◌<◌, ◌+◌, ◌++◌, ℕ, [], length, get_or}
use Rattle.log_batch.specs.Supplied.{batch_of}
use Rattle.filling.specs.Ends.{ended_among}
use Rattle.filling.proofs.completion.ends.Ends.by_place.Given as goal

-- of each place there are those found so far, and after them come those of the ends that are left
abbrev pub invariant-loop-slot : goal.invariant-loop-slot
invariant-loop-slot l = record {
  many : length l.groups ≡ l.batch.size;
  each : (index : ℕ) → index < l.batch.size
      → get_or l.groups index [] ++ ended_among (batch_of l.batch) (l.batch.first + index) l.slot-iterator
      ≡ ended_among (batch_of l.batch) (l.batch.first + index) l.self.places.entries;
}
