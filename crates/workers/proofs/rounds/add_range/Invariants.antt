use Rattle.std.proofs.Common.{◌≡◌, ◌⊎◌, ◌<◌, ◌≤◌, ◌+◌, ◌-◌, ℕ}
use Rattle.std.specs.VecDeque.{deque_capacity, deque_len}
use Rattle.words.specs.Views.{In}
use Rattle.workers.proofs.rounds.add_range.Given as goal

abbrev pub invariant-loop-index : goal.invariant-loop-index
invariant-loop-index l = record {
  capacity : deque_capacity l.rest ≡ deque_capacity l.initial.rest;
  len : deque_len l.rest ≡ deque_len l.initial.rest + (l.index - l.fn.range.start);
  keeps : (index : ℕ) → In index l.initial.rest.items → In index l.rest.items;
  adds : (index : ℕ) → l.fn.range.start ≤ index → index < l.index → In index l.rest.items;
  within : (index : ℕ) → In index l.rest.items → In index l.initial.rest.items ⊎ (index < l.index);
}
