use Rattle.std.proofs.Common.{◌≡◌, ◌-◌, ◌∙◌, ℕ, arith, length, length-drop, ap, refl, rules, sym, subst}
use Rattle.std.specs.Prelude.{Err}
use Rattle.line_io.specs.Ahead.{ahead}
use Rattle.line_io.specs.Known.{raised}
use Rattle.sequencer.proofs.Beginnings.{begins_further, begins_same}
use Rattle.sequencer.specs.Catalog.{no_names}
use Rattle.sequencer.specs.Foretelling.{Begins}
use Rattle.sequencer.specs.Log.{Accepted}
use Rattle.bohm_base.proofs.Reached.{begun_start}
use Rattle.log_text.proofs.Total.{total_in}
use Rattle.batched_text.specs.Batching.{IsLogOfText, ReportsFirst}
use Rattle.batched_text.specs.Foretold.{log_names}
use Rattle.batched_text.specs.History.{IsKeptBy}
use Rattle.batched_text.specs.declared.line_run.LineRun.{LineRun}
use Rattle.batched_text.proofs.Cutting.{open_first, reports_early, reports_none, trimmed_all}
use Rattle.batched_text.proofs.Faults.{reads_failed, reads_told, writes_failed, writes_told}
use Rattle.batched_text.proofs.Ended.{batched_start, batched_written, begun_cut, begun_whole, ended_batched, log_ended}
use Rattle.batched_text.proofs.Histories.{may_wait, none_wait}
use Rattle.batched_text.proofs.ReadSofar.{read_begun_cut, read_begun_start, read_whole, run_begun}
use Rattle.batched_text.proofs.RunLines.{ready_start, runs_early, runs_early_fault}
use Rattle.batched_text.proofs.running.report_all.Goals.{in-WhenFull, in-BeforeReads+in_ok-report-in-BeforeReads}
use Rattle.batched_text.proofs.running.report_all.Goals as goal

pub returns-in_err-lines-clause-begun : goal.returns-in_err-lines-clause-begun
returns-in_err-lines-clause-begun g c = begun_start total_in _ _ _ c.requires.fresh.1.nothing

pub returns-in_err-lines-clause-begun_read : goal.returns-in_err-lines-clause-begun_read
returns-in_err-lines-clause-begun_read g c = read_begun_start total_in _ _ _ c.requires.fresh.1.nothing

pub turns-init : goal.turns-init
turns-init g c = record {
  may_deal = c.requires.may_deal;
  names = rw (c.requires.unnamed, ap (λ (log : Accepted). log.names) c.requires.fresh.1.log) (begins_same no_names);
  nothing = c.requires.fresh.1.nothing;
  none = none_wait c.args.runner.now.plan.cut _ c.requires.fresh.1.nobody;
  ready = record {
    room = open_first c.args.runner.now.plan c.args.run.now c.requires.fresh.0 c.requires.fresh.1;
    bounded = search rules;
    numbered = search rules;
  };
  batched = batched_start _ _ _ c.args.run.now c.in_ok-lines.ensures c.requires.fresh.1;
  read_errors = refl;
  write_errors = refl;
  flushes = refl;
}

pub returns-in_err-report_line-clause-begun : goal.returns-in_err-report_line-clause-begun
returns-in_err-report_line-clause-begun g c =
    (c.report_line.ensures.turn (g.W.Write.contents c.turns.writer.inner)).begun _ _ c.turns.invariant.batched

pub returns-in_err-report_line-clause-begun_read : goal.returns-in_err-report_line-clause-begun_read
returns-in_err-report_line-clause-begun_read g c =
    (c.report_line.ensures.turn (g.W.Write.contents c.turns.writer.inner)).begun_read _ _ c.turns.invariant.batched

pub returns-in_err-taken-clause-begun : goal.returns-in_err-taken-clause-begun
returns-in_err-taken-clause-begun g c =
    let took = (rw c.if-branch.true at (c.in_ok-report_line.ensures.turn (g.W.Write.contents c.turns.writer.inner)).taken) refl in
    let so = took.batched _ _ c.turns.invariant.batched in
    (rw c.bytes_ahead-bytes.ensures at c.deal_at_hand.ensures.runs.begun) _ (g.R.Read.remaining c.args.reader.now.inner) (g.W.Write.contents c.args.writer.now.inner) _ so

pub returns-in_err-taken-clause-begun_read : goal.returns-in_err-taken-clause-begun_read
returns-in_err-taken-clause-begun_read g c =
    let took = (rw c.if-branch.true at (c.in_ok-report_line.ensures.turn (g.W.Write.contents c.turns.writer.inner)).taken) refl in
    let so = took.batched _ _ c.turns.invariant.batched in
    run_begun (g.R.Read.remaining c.args.reader.now.inner) _ (g.W.Write.contents c.args.writer.now.inner) _ (ahead c.report_line.new.lines) c.report_line.new.run c.deal_at_hand.new.run
    (rw c.bytes_ahead-bytes.ensures at c.deal_at_hand.ensures.runs.begun) so

pub returns-in_err-report-in-BeforeReads-clause-begun : goal.returns-in_err-report-in-BeforeReads-clause-begun
returns-in_err-report-in-BeforeReads-clause-begun g c =
    let took = (rw c.if-branch.true at (c.in_ok-report_line.ensures.turn (g.W.Write.contents c.turns.writer.inner)).taken) refl in
    let so = took.batched _ _ c.turns.invariant.batched in
    let told = runs_early_fault c.args.runner.now.plan (record { bytes = c.bytes_ahead-bytes.result; given = c.report_line.new.reader.given }) 0 c.in_ok-taken.taken c.report_line.new.run
    c.deal_at_hand.new.run c.report.new.self (Err c.in_err-report-in-BeforeReads.field-0.0) c.in_ok-taken.ensures.runs
    c.in_err-report-in-BeforeReads.ensures.err.pending c.in_err-report-in-BeforeReads.ensures.err.stops in
    let begun = rw c.bytes_ahead-bytes.ensures at told.begun in
    begun _ (g.R.Read.remaining c.args.reader.now.inner) (g.W.Write.contents c.args.writer.now.inner) _ so

pub returns-in_err-report-in-BeforeReads-clause-begun_read : goal.returns-in_err-report-in-BeforeReads-clause-begun_read
returns-in_err-report-in-BeforeReads-clause-begun_read g c =
    let took = (rw c.if-branch.true at (c.in_ok-report_line.ensures.turn (g.W.Write.contents c.turns.writer.inner)).taken) refl in
    let so = took.batched _ _ c.turns.invariant.batched in
    let told = runs_early_fault c.args.runner.now.plan (record { bytes = c.bytes_ahead-bytes.result; given = c.report_line.new.reader.given }) 0 c.in_ok-taken.taken c.report_line.new.run
    c.deal_at_hand.new.run c.report.new.self (Err c.in_err-report-in-BeforeReads.field-0.0) c.in_ok-taken.ensures.runs
    c.in_err-report-in-BeforeReads.ensures.err.pending c.in_err-report-in-BeforeReads.ensures.err.stops in
    let begun = rw c.bytes_ahead-bytes.ensures at told.begun in
    run_begun (g.R.Read.remaining c.args.reader.now.inner) _ (g.W.Write.contents c.args.writer.now.inner) _ (ahead c.report_line.new.lines) c.report_line.new.run c.report.new.self begun so

pub returns-in_err-write_pending-clause-begun : goal.returns-in_err-write_pending-clause-begun
returns-in_err-write_pending-clause-begun g c =
    let took = (rw c.if-branch.true at (c.in_ok-report_line.ensures.turn (g.W.Write.contents c.turns.writer.inner)).taken) refl in
    let so = took.batched _ _ c.turns.invariant.batched in
    let put : ReportsFirst c.args.runner.now.plan c.deal_at_hand.new.run c.match-runner.run =
    elim c.match-runner.branch [
      | in-WhenFull w ↦ subst (ReportsFirst c.args.runner.now.plan c.deal_at_hand.new.run) (sym w.run-is) (reports_none c.args.runner.now.plan c.deal_at_hand.new.run c.in_ok-taken.ensures.runs.ready.ready.room)
      | in-BeforeReads+in_ok-report-in-BeforeReads w ↦ subst (ReportsFirst c.args.runner.now.plan c.deal_at_hand.new.run) (sym w.run-is)
          (reports_early c.args.runner.now.plan c.deal_at_hand.new.run w.report.new.self c.in_ok-taken.ensures.runs.ready.ready.room.filling w.in-BeforeReads.is
          w.in_ok-report-in-BeforeReads.ensures.reports)
    ] in
    let early = runs_early c.args.runner.now.plan (record { bytes = c.bytes_ahead-bytes.result; given = c.report_line.new.reader.given }) 0 c.in_ok-taken.taken c.report_line.new.run
    c.deal_at_hand.new.run c.match-runner.run c.in_ok-taken.ensures.runs put in
    let runs = rw c.bytes_ahead-bytes.ensures at early in
    begun_cut (g.R.Read.remaining c.args.reader.now.inner) (g.W.Write.contents c.args.writer.now.inner) _ _ c.match-runner.run.pending.items c.write_pending.new.pending.items
    (runs.begun _ (g.R.Read.remaining c.args.reader.now.inner) (g.W.Write.contents c.args.writer.now.inner) _ so) c.write_pending.ensures.front c.write_pending.ensures.empty

pub returns-in_err-write_pending-clause-begun_read : goal.returns-in_err-write_pending-clause-begun_read
returns-in_err-write_pending-clause-begun_read g c =
    let took = (rw c.if-branch.true at (c.in_ok-report_line.ensures.turn (g.W.Write.contents c.turns.writer.inner)).taken) refl in
    let so = took.batched _ _ c.turns.invariant.batched in
    let put : ReportsFirst c.args.runner.now.plan c.deal_at_hand.new.run c.match-runner.run =
    elim c.match-runner.branch [
      | in-WhenFull w ↦ subst (ReportsFirst c.args.runner.now.plan c.deal_at_hand.new.run) (sym w.run-is) (reports_none c.args.runner.now.plan c.deal_at_hand.new.run c.in_ok-taken.ensures.runs.ready.ready.room)
      | in-BeforeReads+in_ok-report-in-BeforeReads w ↦ subst (ReportsFirst c.args.runner.now.plan c.deal_at_hand.new.run) (sym w.run-is)
          (reports_early c.args.runner.now.plan c.deal_at_hand.new.run w.report.new.self c.in_ok-taken.ensures.runs.ready.ready.room.filling w.in-BeforeReads.is
          w.in_ok-report-in-BeforeReads.ensures.reports)
    ] in
    let early = runs_early c.args.runner.now.plan (record { bytes = c.bytes_ahead-bytes.result; given = c.report_line.new.reader.given }) 0 c.in_ok-taken.taken c.report_line.new.run
    c.deal_at_hand.new.run c.match-runner.run c.in_ok-taken.ensures.runs put in
    let runs = rw c.bytes_ahead-bytes.ensures at early in
    read_begun_cut (g.R.Read.remaining c.args.reader.now.inner) _ (g.W.Write.contents c.args.writer.now.inner) _ _ c.match-runner.run.pending.items c.write_pending.new.pending.items
    (run_begun (g.R.Read.remaining c.args.reader.now.inner) _ (g.W.Write.contents c.args.writer.now.inner) _ (ahead c.report_line.new.lines) c.report_line.new.run c.match-runner.run runs.begun so)
    c.write_pending.ensures.front c.write_pending.ensures.empty

pub returns-in_err-taken-clause-reads : goal.returns-in_err-taken-clause-reads
returns-in_err-taken-clause-reads g c =
    c.in_ok-report_line.ensures.reads ∙ c.turns.invariant.read_errors
    ∙ reads_told _ c.in_err-taken.field-0.0 c.from_residual-in_err-taken.result c.args.reader.now.errors c.from_residual-in_err-taken.ensures.1
    c.in_err-taken.ensures.runs.err

pub returns-in_err-taken-clause-writes : goal.returns-in_err-taken-clause-writes
returns-in_err-taken-clause-writes g c =
    c.turns.invariant.write_errors
    ∙ writes_told _ c.in_err-taken.field-0.0 c.from_residual-in_err-taken.result c.args.writer.now.errors c.from_residual-in_err-taken.ensures.1
    c.in_err-taken.ensures.runs.err

pub returns-in_err-report-in-BeforeReads-clause-reads : goal.returns-in_err-report-in-BeforeReads-clause-reads
returns-in_err-report-in-BeforeReads-clause-reads g c =
    c.in_ok-report_line.ensures.reads ∙ c.turns.invariant.read_errors
    ∙ reads_told _ c.in_err-report-in-BeforeReads.field-0.0 c.from_residual-in_err-report-in-BeforeReads.result c.args.reader.now.errors c.from_residual-in_err-report-in-BeforeReads.ensures.1
    c.in_err-report-in-BeforeReads.ensures.err.stops

pub returns-in_err-report-in-BeforeReads-clause-writes : goal.returns-in_err-report-in-BeforeReads-clause-writes
returns-in_err-report-in-BeforeReads-clause-writes g c =
    c.turns.invariant.write_errors
    ∙ writes_told _ c.in_err-report-in-BeforeReads.field-0.0 c.from_residual-in_err-report-in-BeforeReads.result c.args.writer.now.errors c.from_residual-in_err-report-in-BeforeReads.ensures.1
    c.in_err-report-in-BeforeReads.ensures.err.stops

pub returns-in_err-write_pending-clause-reads : goal.returns-in_err-write_pending-clause-reads
returns-in_err-write_pending-clause-reads g c =
    c.in_ok-report_line.ensures.reads ∙ c.turns.invariant.read_errors
    ∙ reads_failed _ c.from_residual-in_err-write_pending.result c.args.reader.now.errors c.from_residual-in_err-write_pending.ensures.1

pub returns-in_err-write_pending-clause-writes : goal.returns-in_err-write_pending-clause-writes
returns-in_err-write_pending-clause-writes g c =
    c.in_err-write_pending.ensures.err ∙ ap raised c.turns.invariant.write_errors
    ∙ writes_failed _ c.from_residual-in_err-write_pending.result c.args.writer.now.errors c.from_residual-in_err-write_pending.ensures.1

pub deal_at_hand-requires-clause-begins : goal.deal_at_hand-requires-clause-begins
deal_at_hand-requires-clause-begins g c =
    begins_further _ (log_names c.turns.run) (log_names c.report_line.new.run) c.turns.invariant.names
    c.in_ok-report_line.ensures.begins

pub deal_at_hand-requires-clause-ready : goal.deal_at_hand-requires-clause-ready
deal_at_hand-requires-clause-ready g c =
    let took = (rw c.if-branch.true at (c.in_ok-report_line.ensures.turn (g.W.Write.contents c.turns.writer.inner)).taken) refl in
    ready_start c.args.runner.now.plan (record { bytes = c.bytes_ahead-bytes.result; given = c.report_line.new.reader.given }) c.report_line.new.run
    (rw c.bytes_ahead-bytes.ensures took.ready) took.begun

pub report-requires-clause-steady : goal.report-requires-clause-steady
report-requires-clause-steady g c =
    c.in_ok-taken.ensures.runs.ready.ready.room.filling.steady

pub turns-preserved : goal.turns-preserved
turns-preserved g c =
    let took = (rw c.if-branch.true at (c.in_ok-report_line.ensures.turn (g.W.Write.contents c.turns.writer.inner)).taken) refl in
    let so = took.batched _ _ c.turns.invariant.batched in
    let put : ReportsFirst c.args.runner.now.plan c.deal_at_hand.new.run c.match-runner.run =
    elim c.match-runner.branch [
      | in-WhenFull w ↦ subst (ReportsFirst c.args.runner.now.plan c.deal_at_hand.new.run) (sym w.run-is) (reports_none c.args.runner.now.plan c.deal_at_hand.new.run c.in_ok-taken.ensures.runs.ready.ready.room)
      | in-BeforeReads+in_ok-report-in-BeforeReads w ↦ subst (ReportsFirst c.args.runner.now.plan c.deal_at_hand.new.run) (sym w.run-is)
          (reports_early c.args.runner.now.plan c.deal_at_hand.new.run w.report.new.self c.in_ok-taken.ensures.runs.ready.ready.room.filling w.in-BeforeReads.is
          w.in_ok-report-in-BeforeReads.ensures.reports)
    ] in
    let early = runs_early c.args.runner.now.plan (record { bytes = c.bytes_ahead-bytes.result; given = c.report_line.new.reader.given }) 0 c.in_ok-taken.taken c.report_line.new.run
    c.deal_at_hand.new.run c.match-runner.run c.in_ok-taken.ensures.runs put in
    let runs = rw c.bytes_ahead-bytes.ensures at early in
    let still = runs.ready.ready.room.filling in
    let left : length (ahead c.take_ahead.new.self) ≡ length (ahead c.report_line.new.lines) - c.in_ok-taken.taken =
    ap length c.take_ahead.ensures.ahead ∙ length-drop c.in_ok-taken.taken (ahead c.report_line.new.lines) in
    let reads : c.report_line.new.reader.errors ≡ c.turns.reader.errors = c.in_ok-report_line.ensures.reads in
    let writes : c.write_pending.new.writer.errors ≡ c.turns.writer.errors = c.in_ok-write_pending.ensures.same in
    record {
      may_deal = c.in_ok-taken.ensures.may_deal;
      names = subst (λ (log : Accepted). Begins (g.D.Dealer.names c.deal_at_hand.new.self) log.names) (sym put.log) c.in_ok-taken.ensures.names;
      nothing = search rules;
      none = elim c.match-runner.branch [
        | in-WhenFull w ↦ may_wait c.args.runner.now.plan.cut c.match-runner.run.waiting.items w.in-WhenFull.is
        | in-BeforeReads+in_ok-report-in-BeforeReads w ↦ none_wait c.args.runner.now.plan.cut c.match-runner.run.waiting.items
            (ap (λ (run : LineRun). run.waiting.items) w.run-is ∙ w.in_ok-report-in-BeforeReads.ensures.reports.left)
      ];
      ready = record {
        room = record {
          filling = record {
            whole = still.whole;
            steady = record {
              within = still.steady.within;
              counted = still.steady.counted;
              ran = still.steady.ran;
              numbered = still.steady.numbered;
              kept = still.steady.kept;
              cut = still.steady.cut;
              swept = still.steady.swept;
              most = still.steady.most;
            };
          };
          less = runs.ready.ready.room.less;
        };
        bounded = λ some. runs.ready.ready.bounded (omega (arith, some, left));
        numbered = omega (arith, runs.ready.ready.numbered, left);
      };
      batched = batched_written (g.R.Read.remaining c.args.reader.now.inner) _ (g.W.Write.contents c.args.writer.now.inner) _ _ c.match-runner.run.pending.items c.write_pending.new.pending.items _ _ _ _
          (rw c.take_ahead.ensures.ahead (runs.taken _ (g.R.Read.remaining c.args.reader.now.inner) (g.W.Write.contents c.args.writer.now.inner) _ so)) c.in_ok-write_pending.ensures.ok c.write_pending.ensures.empty;
      read_errors = reads ∙ c.turns.invariant.read_errors;
      write_errors = writes ∙ c.turns.invariant.write_errors;
      flushes = c.write_pending.ensures.flushes ∙ c.turns.invariant.flushes;
    }

pub turns-smaller : goal.turns-smaller
turns-smaller g c =
    let took = (rw c.if-branch.true at (c.in_ok-report_line.ensures.turn (g.W.Write.contents c.turns.writer.inner)).taken) refl in
    let left : length (ahead c.take_ahead.new.self) ≡ length (ahead c.report_line.new.lines) - c.in_ok-taken.taken =
    ap length c.take_ahead.ensures.ahead ∙ length-drop c.in_ok-taken.taken (ahead c.report_line.new.lines) in
    omega (arith, took.forward, took.most, left)

pub report-requires-2-clause-steady : goal.report-requires-2-clause-steady
report-requires-2-clause-steady g c = ((rw c.if-branch.false at (c.in_ok-report_line.ensures.turn (g.W.Write.contents c.turns.writer.inner)).room) refl).filling.steady

pub returns-in_err-report-clause-begun : goal.returns-in_err-report-clause-begun
returns-in_err-report-clause-begun g c = rw c.in_err-report.ensures.err.pending ((c.in_ok-report_line.ensures.turn (g.W.Write.contents c.turns.writer.inner)).begun _ _ c.turns.invariant.batched)

pub returns-in_err-report-clause-begun_read : goal.returns-in_err-report-clause-begun_read
returns-in_err-report-clause-begun_read g c = rw c.in_err-report.ensures.err.pending ((c.in_ok-report_line.ensures.turn (g.W.Write.contents c.turns.writer.inner)).begun_read _ _ c.turns.invariant.batched)

pub returns-clause-ran : goal.returns-clause-ran
returns-clause-ran g c =
    let turn = c.in_ok-report_line.ensures.turn (g.W.Write.contents c.turns.writer.inner) in
    let ended = (rw c.if-branch.false at turn.ended) refl _ _ c.turns.invariant.batched in
    let put = c.in_ok-report.ensures.reports in
    record {
      log = subst (λ (log : Accepted). IsLogOfText (g.R.Read.remaining c.args.reader.now.inner) log) (sym put.ran.log) (log_ended _ _ _ _ c.report_line.new.run ended);
      all = put.ran.all ∙ ap (λ (log : Accepted). length log.statements) (sym put.ran.log);
      trimmed = trimmed_all c.args.runner.now.plan c.report_line.new.run c.report-2.new.self put ((rw c.if-branch.false at turn.room) refl).filling;
      swept = put.ran.swept;
      kept = subst (λ (n : ℕ). IsKeptBy c.args.runner.now.plan.history n c.report-2.new.self.engine) (put.reported ∙ sym put.ran.all) put.kept;
    }

pub returns-clause-done : goal.returns-clause-done
returns-clause-done g c =
    ended_batched _ _ c.report_line.new.run c.report-2.new.self.pending.items c.in_ok-report.ensures.reports.told _ _
    ((rw c.if-branch.false at (c.in_ok-report_line.ensures.turn (g.W.Write.contents c.turns.writer.inner)).ended) refl _ _ c.turns.invariant.batched)

pub returns-clause-begun : goal.returns-clause-begun
returns-clause-begun g c =
    let ended = (rw c.if-branch.false at (c.in_ok-report_line.ensures.turn (g.W.Write.contents c.turns.writer.inner)).ended) refl _ _ c.turns.invariant.batched in
    begun_whole _ _ _ c.report-2.new.self.pending.items
    (ended_batched _ _ c.report_line.new.run c.report-2.new.self.pending.items c.in_ok-report.ensures.reports.told _ _ ended)

pub returns-clause-begun_read : goal.returns-clause-begun_read
returns-clause-begun_read g c =
    let ended = (rw c.if-branch.false at (c.in_ok-report_line.ensures.turn (g.W.Write.contents c.turns.writer.inner)).ended) refl _ _ c.turns.invariant.batched in
    read_whole _ _ _ _ _ c.report_line.new.run c.report-2.new.self.pending.items ended
    (ended_batched _ _ c.report_line.new.run c.report-2.new.self.pending.items c.in_ok-report.ensures.reports.told _ _ ended)

pub returns-in_err-report-clause-reads : goal.returns-in_err-report-clause-reads
returns-in_err-report-clause-reads g c =
    c.in_ok-report_line.ensures.reads ∙ c.turns.invariant.read_errors
    ∙ reads_told _ c.in_err-report.field-0.0 c.from_residual-in_err-report.result c.args.reader.now.errors
    c.from_residual-in_err-report.ensures.1 c.in_err-report.ensures.err.stops

pub returns-in_err-report-clause-writes : goal.returns-in_err-report-clause-writes
returns-in_err-report-clause-writes g c =
    c.turns.invariant.write_errors
    ∙ writes_told _ c.in_err-report.field-0.0 c.from_residual-in_err-report.result c.args.writer.now.errors
    c.from_residual-in_err-report.ensures.1 c.in_err-report.ensures.err.stops
