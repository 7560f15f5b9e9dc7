use Rattle.std.proofs.Common.{◌≡◌, ◌≤◌, ℕ, List, Option}
use Rattle.batched_text.specs.Quiet.{IsBetween, IsRunOf, left_to_run}
use Rattle.batched_text.proofs.quiet.QuietRun.reach.Given as goal

abbrev pub invariant-batches : goal.invariant-batches
invariant-batches g l = record {
  between : IsBetween l.self l.reader.given;
  of : (input : Option (List ℕ)) → IsRunOf input (g.R.Read.remaining l.initial.reader.inner) l.initial.self
      → IsRunOf input (g.R.Read.remaining l.reader.inner) l.self;
  kept : l.self.engine.dropped ≤ l.place;
  last : l.self.last ≡ l.initial.self.last;
  read_errors : l.reader.errors ≡ l.initial.reader.errors;
}

abbrev pub decreases-batches : goal.decreases-batches
decreases-batches g l = left_to_run l.self
