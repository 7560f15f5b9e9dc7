use Rattle.std.proofs.Common.{◌≡◌, ◌≤◌, ℕ, [], Some, length, slice_get}
use Rattle.std.specs.Vec.{vec_capacity}
use Rattle.workers.proofs.placing.no_placers.Given as goal

abbrev pub invariant-loop : goal.invariant-loop
invariant-loop g l = record {
  len : length l.hands.items ≡ l.counter;
  room : l.workers ≤ vec_capacity l.hands;
  none : (worker : ℕ) (hand : _) → slice_get l.hands.items worker ≡ Some hand → hand.items ≡ [];
}
