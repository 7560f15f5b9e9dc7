use Rattle.std.proofs.Common.{arith}
use Rattle.batched_text.proofs.Cutting.{due, reports_all, reports_none}
use Rattle.batched_text.proofs.line_run.LineRun.report_full.Goals as goal

pub returns-in_ok-report-clause-reports : goal.returns-in_ok-report-clause-reports
returns-in_ok-report-clause-reports g c =
    let plan = c.args.runner.now.plan in
    let old = c.args.self.now in
    reports_all plan old c.report.new.self c.in_ok-report.ensures.reports c.requires.filling
    (due plan.cut plan.settings old c.unreported.result c.requires.filling.steady.ran (omega (arith, c.if-unreported-runner.true)) c.unreported.ensures)

pub returns-else-unreported-runner-clause-reports : goal.returns-else-unreported-runner-clause-reports
returns-else-unreported-runner-clause-reports g c =
    reports_none c.args.runner.now.plan c.args.self.now
    (record { filling = c.requires.filling; less = omega (arith, c.if-unreported-runner.false, c.unreported.ensures) })
