use Rattle.std.proofs.Common.{◌≡◌, true, length}
use Rattle.std.specs.Prelude.{All, is_ok}
use Rattle.workers.specs.Working.{GoesOn}
use Rattle.workers.proofs.work.join_others.Given as goal

abbrev pub invariant-threads : goal.invariant-threads
invariant-threads g l = record {
  on : GoesOn l.fn.pass l.known;
  done : is_ok l.worst ≡ true → is_ok l.fn.worked ≡ true;
  helpers : All (λ thread. thread.promise.0.now ≡ l.shared) l.threads.items;
}

abbrev pub decreases-threads : goal.decreases-threads
decreases-threads g l = length l.threads.items
