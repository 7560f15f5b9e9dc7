use Rattle.fed_run.proofs.Feeding.{gives_none, gives_then, on_err}
use Rattle.fed_run.proofs.fed.FedRun.make.Goals as goal

pub returns-clause-gives : goal.returns-clause-gives
returns-clause-gives c =
    let old = c.args.self.now in
    let out = c.args.out.now in
    gives_then old c.settle.new.self c.give.new.self out out c.give.new.out c.args.made c.args.made c.give.result
    (gives_none old c.settle.new.self out c.args.made c.requires.made c.settle.ensures.stands c.settle.ensures.ended) c.give.ensures.gives

pub returns-in_err-settle-clause-stands : goal.returns-in_err-settle-clause-stands
returns-in_err-settle-clause-stands c =
    on_err _ c.from_residual.result
    (gives_none c.args.self.now c.settle.new.self c.args.out.now c.args.made c.requires.made c.settle.ensures.stands c.settle.ensures.ended)
