use Rattle.std.proofs.Common.{◌≡◌, ℕ, List, Option}
use Rattle.batched_text.specs.Quiet.{IsBetween, IsRunOf, left_to_run}
use Rattle.batched_text.proofs.reaching.run_quietly_to.Given as goal

abbrev pub invariant-batches : goal.invariant-batches
invariant-batches g l = record {
  between : IsBetween l.run l.reader.given;
  of : (input : Option (List ℕ)) → IsRunOf input (g.R.Read.remaining l.initial.reader.inner) l.initial.run
      → IsRunOf input (g.R.Read.remaining l.reader.inner) l.run;
  last : l.run.last ≡ l.initial.run.last;
  read_errors : l.reader.errors ≡ l.initial.reader.errors;
}

abbrev pub decreases-batches : goal.decreases-batches
decreases-batches g l = left_to_run l.run
