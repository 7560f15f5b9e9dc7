use Rattle.fed_run.proofs.Feeding.{gives_then}
use Rattle.fed_run.proofs.fed.FedRun.start.Goals as goal

pub returns-in_err-step-clause-gives : goal.returns-in_err-step-clause-gives
returns-in_err-step-clause-gives c =
    gives_then c.args.self.now c.give-step.new.self c.make.new.self c.args.out.now c.give-step.new.out c.make.new.out 0 c.give-step.result c.give-step.result
    c.give-step.ensures.gives c.in_err-step.ensures.stands

pub returns-clause-gives : goal.returns-clause-gives
returns-clause-gives c =
    gives_then c.args.self.now c.give-step.new.self c.make.new.self c.args.out.now c.give-step.new.out c.make.new.out 0 c.give-step.result c.in_ok-step.field-0
    c.give-step.ensures.gives c.in_ok-step.ensures.gives
