use Rattle.batched_text.proofs.Cutting.{reports_early, reports_none}
use Rattle.batched_text.proofs.line_run.LineRun.report_waiting.Goals as goal

pub returns-in_ok-report-clause-reports : goal.returns-in_ok-report-clause-reports
returns-in_ok-report-clause-reports g c =
    reports_early c.args.runner.now.plan c.args.self.now c.report.new.self c.requires.open.filling c.requires.cut c.in_ok-report.ensures.reports

pub returns-else-not-is_empty-clause-reports : goal.returns-else-not-is_empty-clause-reports
returns-else-not-is_empty-clause-reports g c = reports_none c.args.runner.now.plan c.args.self.now c.requires.open
