use Rattle.std.proofs.Common.{◌≡◌, false, ℕ, ◌<◌, ◌≤◌, ◌+◌, ◌-◌, ◌⊎◌, List, Option, length}
use Rattle.std.specs.Io.KnownBytes.{prepend_known}
use Rattle.line_io.specs.Ahead.{ahead}
use Rattle.engine.specs.Engine.{finished}
use Rattle.batched_text.specs.Reaching.{HasTaken}
use Rattle.line_io.specs.declared.limits.TheConstants.{BUFFER_BYTES, MOST_GIVEN_BYTES}
use Rattle.batched_text.proofs.reaching.take_until.Given as goal

abbrev pub invariant-lines : goal.invariant-lines
invariant-lines g l = record {
  taken : (input : Option (List ℕ)) (end : ℕ) → l.place ≤ end
      → HasTaken false input (prepend_known (ahead l.initial.lines) (g.R.Read.remaining l.initial.reader.inner)) end l.initial.engine.log
      → HasTaken false input (prepend_known (ahead l.lines) (g.R.Read.remaining l.reader.inner)) end l.engine.log;
  none : finished l.engine ≡ finished l.initial.engine;
  kept : l.engine.dropped ≡ l.initial.engine.dropped;
  most : (length l.engine.log.statements ≤ length l.initial.engine.log.statements) ⊎ (length l.engine.log.statements ≤ l.place + 1);
  store : l.engine.store ≡ l.initial.engine.store;
  bounded : 0 < length (ahead l.lines) → l.reader.given ≤ MOST_GIVEN_BYTES + BUFFER_BYTES;
  read_errors : l.reader.errors ≡ l.initial.reader.errors;
}

abbrev pub decreases-lines : goal.decreases-lines
decreases-lines g l = MOST_GIVEN_BYTES + BUFFER_BYTES + length (ahead l.lines) - l.reader.given
