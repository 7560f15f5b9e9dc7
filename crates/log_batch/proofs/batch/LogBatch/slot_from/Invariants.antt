use Rattle.std.proofs.Common.{◌-◌, ◌≡◌, ◌<◌, ◌≤◌, ℕ, Some, length, slice_get}
use Rattle.model_base.specs.declared.deed.Grant.{Grant}
use Rattle.model_base.specs.Ranks.{rank}
use Rattle.bohm_core_base.specs.Batch.{batch_slots}
use Rattle.log_batch.specs.Supplied.{batch_of}
use Rattle.log_batch.proofs.batch.LogBatch.slot_from.Given as goal

-- the records of slots before the first bound are before this one, and those from the second on aren't
abbrev pub invariant-loop-low : goal.invariant-loop-low
invariant-loop-low l =
    (l.low ≤ l.high) × (l.high ≤ length (batch_slots (batch_of l.self)))
    × ((slot : ℕ) (grant : Grant) → slot < l.low → slice_get (batch_slots (batch_of l.self)) slot ≡ Some grant → rank grant < l.name)
    × ((slot : ℕ) (grant : Grant) → l.high ≤ slot → slice_get (batch_slots (batch_of l.self)) slot ≡ Some grant → l.name ≤ rank grant)

abbrev pub decreases-loop-low : goal.decreases-loop-low
decreases-loop-low l = l.high - l.low
