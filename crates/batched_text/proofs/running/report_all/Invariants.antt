use Rattle.std.proofs.Common.{◌≡◌, ◌+◌, ◌-◌, [], length}
use Rattle.std.specs.Io.KnownBytes.{prepend_known}
use Rattle.line_io.specs.Ahead.{ahead}
use Rattle.line_io.specs.declared.limits.TheConstants.{BUFFER_BYTES, MOST_GIVEN_BYTES}
use Rattle.sequencer.specs.Foretelling.{Begins}
use Rattle.batched_text.specs.Batching.{BatchedUpTo, IsBatchReady}
use Rattle.batched_text.specs.Foretold.{log_names}
use Rattle.batched_text.specs.History.{NoneWait}
use Rattle.batched_text.proofs.running.report_all.Given as goal

abbrev pub invariant-turns : goal.invariant-turns
invariant-turns g l = record {
  may_deal : g.D.Dealer.may_deal l.dealer;
  names : Begins (g.D.Dealer.names l.dealer) (log_names l.run);
  nothing : l.run.pending.items ≡ [];
  none : NoneWait l.runner.plan.cut l.run.waiting.items;
  ready : IsBatchReady l.runner.plan l.run (length (ahead l.lines)) l.reader.given;
  batched : BatchedUpTo (g.R.Read.remaining l.initial.reader.inner) (prepend_known (ahead l.lines) (g.R.Read.remaining l.reader.inner))
      (g.W.Write.contents l.initial.writer.inner) (g.W.Write.contents l.writer.inner) l.run;
  read_errors : l.reader.errors ≡ l.initial.reader.errors;
  write_errors : l.writer.errors ≡ l.initial.writer.errors;
  flushes : l.writer.flushes ≡ l.initial.writer.flushes;
}

abbrev pub decreases-turns : goal.decreases-turns
decreases-turns g l = MOST_GIVEN_BYTES + BUFFER_BYTES + length (ahead l.lines) - l.reader.given
