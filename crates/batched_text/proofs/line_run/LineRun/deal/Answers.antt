use Rattle.batched_text.proofs.Cutting.{dealt, filled}
use Rattle.batched_text.proofs.line_run.LineRun.deal.Goals as goal

pub report_full-requires-clause-filling : goal.report_full-requires-clause-filling
report_full-requires-clause-filling g c =
    let took = c.in_ok-take.ensures.ok in
    filled c.args.runner.now.plan c.args.self.now c.take.new.self took.0 c.requires.room c.requires.number took.1.1

pub returns-clause-dealt : goal.returns-clause-dealt
returns-clause-dealt g c =
    let took = c.in_ok-take.ensures.ok in
    let put = c.in_ok-report_full.ensures.reports in
    (took.0, (took.1.0, dealt c.args.runner.now.plan took.0 c.args.self.now c.take.new.self c.report_full.new.self took.1.1 put))
