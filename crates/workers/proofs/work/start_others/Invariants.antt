use Rattle.std.proofs.Common.{◌≡◌, ◌<◌, ◌≤◌, ◌+◌, length}
use Rattle.std.specs.Prelude.{All}
use Rattle.std.specs.Vec.{vec_capacity}
use Rattle.workers.specs.Placing.{HaveDealt}
use Rattle.workers.specs.Working.{GoesOn}
use Rattle.workers.proofs.work.start_others.Given as goal

abbrev pub invariant-hands : goal.invariant-hands
invariant-hands g l = record {
  on : GoesOn l.fn.pass l.rest;
  hands : HaveDealt (λ hand. hand.items) g.P.BatchPlacer.is_of g.P.BatchPlacer.front l.shared l.hands.items;
  some : 0 < length l.hands.items;
  helpers : All (λ thread. thread.promise.0.now ≡ l.shared) l.threads.items;
  all : length l.threads.items + length l.hands.items ≡ length l.initial.hands.items;
  room : length l.threads.items + length l.hands.items ≤ vec_capacity l.threads;
}

abbrev pub decreases-hands : goal.decreases-hands
decreases-hands g l = length l.hands.items
