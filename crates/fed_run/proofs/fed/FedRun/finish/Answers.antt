use Rattle.std.proofs.Common.{refl}
use Rattle.fed_run.proofs.Feeding.{told_reports, told_stands}
use Rattle.fed_run.proofs.fed.FedRun.finish.Goals as goal

pub returns-clause-stands : goal.returns-clause-stands
returns-clause-stands c =
    told_stands c.end-done.new.out c.args.self.now _ c.end-done.new.self c.end-done.new.step.used c.end-done.new.step.made c.end-done.ensures.feeds refl refl refl refl

pub returns-clause-report : goal.returns-clause-report
returns-clause-report c =
    told_reports c.end-done.new.out c.args.self.now _ c.end-done.new.self c.end-done.new.step.used c.end-done.new.step.made c.end-done.ensures.feeds refl refl refl refl
    c.end-done.result _ c.end-done.ensures.settled c.end-done.ensures.none c.end-done.ensures.len
