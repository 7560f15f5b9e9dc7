use Rattle.batched_text.proofs.RunLines.{runs_then}
use Rattle.batched_text.proofs.stretches.report_piece.Goals as goal

pub returns : goal.returns
returns g c =
    runs_then c.args.runner.now.plan c.args.ahead.now.buffered c.args.from c.in_ok-at.at c.args.run.now c.report_foretold.new.run c.report_until-2.new.run
    c.report_until-2.result c.in_ok-at.ensures c.report_until-2.ensures
