use Rattle.std.proofs.Common.{◌≡◌, ◌+◌, ◌++◌, ℕ, Some, length, slice_get}
use Rattle.workers.specs.Placing.{dealt}
use Rattle.workers.proofs.placing.deal.Given as goal

abbrev pub invariant-loop-number : goal.invariant-loop-number
invariant-loop-number g l = record {
  len : length l.hands.items ≡ l.fn.workers;
  left : l.number + length l.rest.items ≡ length l.fn.placers.items;
  dealt : (worker : ℕ) (hand : _) → slice_get l.hands.items worker ≡ Some hand
      → hand.items ++ dealt worker l.fn.workers l.number l.rest.items ≡ dealt worker l.fn.workers 0 l.fn.placers.items;
}
