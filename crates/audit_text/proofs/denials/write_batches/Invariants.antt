use Rattle.std.proofs.Common.{◌≡◌, ◌≤◌, ℕ, List, Option, Some}
use Rattle.engine.specs.Engine.{finished}
use Rattle.batched_text.specs.Quiet.{IsBetween, IsRunOf, left_to_run}
use Rattle.audit_text.proofs.RunSofar.{TellsTo}
use Rattle.audit_text.proofs.denials.write_batches.Given as goal

abbrev pub invariant-batches : goal.invariant-batches
invariant-batches g l = record {
  between : IsBetween l.run l.reader.given;
  order : l.run.engine.dropped ≤ finished l.run.engine;
  of : (input : Option (List ℕ)) → IsRunOf input (g.R.Read.remaining l.initial.reader.inner) l.initial.run
      → IsRunOf input (g.R.Read.remaining l.reader.inner) l.run;
  told : (input : List ℕ) → IsRunOf (Some input) (g.R.Read.remaining l.initial.reader.inner) l.initial.run
      → TellsTo input l.is_checked (g.W.Write.contents l.initial.writer.inner) (g.W.Write.contents l.writer.inner) l.run.engine.dropped;
  last : l.run.last ≡ l.initial.run.last;
  read_errors : l.reader.errors ≡ l.initial.reader.errors;
  write_errors : l.writer.errors ≡ l.initial.writer.errors;
  flushes : l.writer.flushes ≡ l.initial.writer.flushes;
}

abbrev pub decreases-batches : goal.decreases-batches
decreases-batches g l = left_to_run l.run
