use Rattle.std.specs.Prelude.{Ok}
use Rattle.batched_text.specs.Foretold.{log_names}
use Rattle.batched_text.proofs.Cutting.{reports_early}
use Rattle.batched_text.proofs.ForetoldLines.{was_ahead}
use Rattle.batched_text.proofs.RunLines.{runs_early, runs_none, runs_then}
use Rattle.batched_text.proofs.foretold.report_foretold.Goals as goal

pub turns-init : goal.turns-init
turns-init g c = runs_none c.args.runner.now.plan c.args.buffered.now c.args.from c.args.run.now c.requires.within c.requires.ready

pub report_one-requires-clause-ahead : goal.report_one-requires-clause-ahead
report_one-requires-clause-ahead g c =
    let so_far = runs_then c.args.runner.now.plan c.args.buffered.now c.args.from c.turns.at c.args.run.now c.turns.run c.report_until.new.run
    (Ok c.in_ok-next.next) c.turns.invariant c.in_ok-next.ensures in
    was_ahead (log_names c.args.run.now) (log_names c.report_until.new.run) c.args.buffered.now.bytes.now c.args.lines.now c.turns.ahead-index c.ahead-item.result
    c.requires.ahead so_far.begins so_far.version c.turns-test.true c.ahead-item.is

pub turns-preserved : goal.turns-preserved
turns-preserved g c =
    runs_then c.args.runner.now.plan c.args.buffered.now c.args.from c.in_ok-next.next c.args.run.now c.report_until.new.run c.report_one.new.run (Ok c.in_ok-at.at)
    (runs_then c.args.runner.now.plan c.args.buffered.now c.args.from c.turns.at c.args.run.now c.turns.run c.report_until.new.run (Ok c.in_ok-next.next)
    c.turns.invariant c.in_ok-next.ensures)
    c.in_ok-at.ensures

pub returns-in_ok-report-in-BeforeReads : goal.returns-in_ok-report-in-BeforeReads
returns-in_ok-report-in-BeforeReads g c =
    runs_early c.args.runner.now.plan c.args.buffered.now c.args.from c.turns.at c.args.run.now c.turns.run c.report.new.self c.turns.invariant
    (reports_early c.args.runner.now.plan c.turns.run c.report.new.self c.turns.invariant.ready.ready.room.filling c.in-BeforeReads.is
    c.in_ok-report-in-BeforeReads.ensures.reports)
