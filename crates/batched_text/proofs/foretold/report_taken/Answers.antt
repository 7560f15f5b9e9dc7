use Rattle.std.proofs.Common.{inl, subst, sym, ◌∙◌}
use Rattle.std.specs.Prelude.{Err, Ok}
use Rattle.batched_text.specs.Foretold.{Runs}
use Rattle.batched_text.specs.declared.line_run.LineRun.{LineRun}
use Rattle.batched_text.proofs.Cutting.{filled}
use Rattle.batched_text.proofs.RunLines.{numbered_at, runs_fault, runs_line, runs_none, runs_told}
use Rattle.batched_text.proofs.foretold.report_taken.Goals as goal

pub report_full-requires-clause-filling : goal.report_full-requires-clause-filling
report_full-requires-clause-filling g c =
    let took = rw c.in-Some.is at c.in_ok-count.ensures.ok in
    filled c.args.runner.now.plan c.args.run.now c.take_ahead.new.run took.reading c.requires.ready.ready.room
    (numbered_at c.args.runner.now.plan c.args.buffered.now c.args.ahead.now.from c.in-Some.count took.line c.args.run.now c.requires.ready took.at) took.takes

pub returns-in_err-count : goal.returns-in_err-count
returns-in_err-count g c =
    let fault = c.in_err-count.field-0.0 in
    runs_told c.args.runner.now.plan c.args.buffered.now c.args.ahead.now.from c.args.run.now c.take_ahead.new.run fault c.from_residual.result
    (runs_fault c.args.runner.now.plan c.args.buffered.now c.args.ahead.now.from c.args.run.now c.take_ahead.new.run (Err fault) c.in_err-count.ensures.still.pending (inl c.in_err-count.ensures.err))
    c.from_residual.ensures.1

pub returns-in_default : goal.returns-in_default
returns-in_default g c =
    let same = rw c.in_default.is at c.in_ok-count.ensures.ok in
    subst (λ (new : LineRun). Runs c.args.runner.now.plan c.args.buffered.now c.args.ahead.now.from c.args.run.now new (Ok c.args.ahead.now.from)) (sym same)
    (runs_none c.args.runner.now.plan c.args.buffered.now c.args.ahead.now.from c.args.run.now c.requires.within c.requires.ready)

pub returns-in_err-report_full : goal.returns-in_err-report_full
returns-in_err-report_full g c =
    let fault = c.in_err-report_full.field-0.0 in
    let taken = rw c.in-Some.is at c.in_ok-count.ensures.ok in
    runs_told c.args.runner.now.plan c.args.buffered.now c.args.ahead.now.from c.args.run.now c.report_full.new.self fault c.from_residual-in_err-report_full.result
    (runs_fault c.args.runner.now.plan c.args.buffered.now c.args.ahead.now.from c.args.run.now c.report_full.new.self (Err fault)
    (c.in_err-report_full.ensures.err.pending ∙ taken.takes.pending) c.in_err-report_full.ensures.err.stops)
    c.from_residual-in_err-report_full.ensures.1

pub returns : goal.returns
returns g c =
    let taken = rw c.in-Some.is at c.in_ok-count.ensures.ok in
    runs_line c.args.runner.now.plan c.args.buffered.now c.args.ahead.now.from c.in-Some.count c.args.run.now c.take_ahead.new.run c.report_full.new.self c.requires.ready
    taken c.in_ok-report_full.ensures.reports
