use Rattle.std.proofs.Common.{◌+◌}
use Rattle.std.specs.Prelude.{Err, Ok}
use Rattle.read_ahead.specs.Ahead.{line_from}
use Rattle.report.specs.Report.{read}
use Rattle.batched_text.specs.Batching.{next_line}
use Rattle.batched_text.specs.Foretold.{log_names}
use Rattle.batched_text.proofs.ForetoldLines.{known_at, reads_later}
use Rattle.batched_text.proofs.RunLines.{runs_dealt, runs_early, runs_early_told, runs_fault, runs_none, runs_then, runs_told}
use Rattle.batched_text.proofs.foretold.report_known.Goals as goal

pub returns-in_err-report_waiting : goal.returns-in_err-report_waiting
returns-in_err-report_waiting g c =
    let fault = c.in_err-report_waiting.field-0.0 in
    runs_told c.args.runner.now.plan c.args.buffered.now c.args.ahead.now.from c.args.run.now c.report_waiting.new.self fault c.from_residual.result
    (runs_fault c.args.runner.now.plan c.args.buffered.now c.args.ahead.now.from c.args.run.now c.report_waiting.new.self (Err fault)
    c.in_err-report_waiting.ensures.err.pending c.in_err-report_waiting.ensures.err.stops)
    c.from_residual.ensures.1

pub report_single-requires-clause-foretold : goal.report_single-requires-clause-foretold
report_single-requires-clause-foretold g c =
    let put = c.in_ok-report_waiting.ensures.reports in
    let known = known_at c.args.run.now c.report_waiting.new.self c.args.buffered.now.bytes.now c.args.ahead.now c.args.statement.now put.log
    put.room.filling.whole c.requires.place c.requires.ahead c.requires.known in
    (known.0, (known.1.0, known.1.1.1))

pub returns-in_err-report_single : goal.returns-in_err-report_single
returns-in_err-report_single g c =
    let old = c.args.run.now in
    let mid = c.report_waiting.new.self in
    let from = c.args.ahead.now.from in
    let waited = runs_early c.args.runner.now.plan c.args.buffered.now from from old old mid
    (runs_none c.args.runner.now.plan c.args.buffered.now from old c.requires.within c.requires.ready) c.in_ok-report_waiting.ensures.reports in
    runs_early_told c.args.runner.now.plan c.args.buffered.now from from old mid c.report_single.new.self c.in_err-report_single.field-0.0
    c.from_residual-in_err-report_single.result waited c.in_err-report_single.ensures.err.pending c.in_err-report_single.ensures.err.stops c.from_residual-in_err-report_single.ensures.1

pub returns : goal.returns
returns g c =
    let old = c.args.run.now in
    let mid = c.report_waiting.new.self in
    let new = c.report_single.new.self in
    let from = c.args.ahead.now.from in
    let count = c.args.ahead.now.count in
    let line = line_from c.args.buffered.now.bytes.now from in
    let put = c.in_ok-report_waiting.ensures.reports in
    let waited = runs_early c.args.runner.now.plan c.args.buffered.now from from old old mid
    (runs_none c.args.runner.now.plan c.args.buffered.now from old c.requires.within c.requires.ready) put in
    let known = known_at old mid c.args.buffered.now.bytes.now c.args.ahead.now c.args.statement.now put.log put.room.filling.whole c.requires.place c.requires.ahead c.requires.known in
    runs_then c.args.runner.now.plan c.args.buffered.now from from old mid new (Ok (from + count)) waited
    (runs_dealt c.args.runner.now.plan c.args.buffered.now from count line (read known.0) mid new waited.ready c.requires.ahead.ahead.at
    (reads_later (next_line mid) (log_names mid).version line (read known.0) waited.ready.begun known.1.1.0)
    (c.in_ok-report_single.ensures.deals known.0 known.1.1.1) c.in_ok-report_single.ensures.room)
