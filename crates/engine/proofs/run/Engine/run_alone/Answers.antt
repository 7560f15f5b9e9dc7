use Rattle.engine.proofs.Advanced.{kept_to, runs_to}
use Rattle.engine.proofs.run.Engine.run_alone.Goals as goal

pub invariant_of-self-2 : goal.invariant_of-self-2
invariant_of-self-2 c =
    let e = c.self.inside in
    let ran = c.run_in_order.new in
    kept_to e.log e.state ran.state e.past.items e.outcomes.items ran.outcomes.items c.args.self.now c.self.view_is c.self.invariant c.finished-start.result c.args.end
    c.finished-start.ensures.count c.requires.order c.requires.within c.in_ok-run_in_order.ensures.ok

pub returns : goal.returns
returns c =
    let e = c.self.inside in
    let ran = c.run_in_order.new in
    runs_to e.log e.state ran.state e.past.items e.outcomes.items ran.outcomes.items c.args.self.now c.self.view_is c.self.invariant c.finished-start.result c.args.end
    c.finished-start.ensures.count c.requires.order c.requires.within c.in_ok-run_in_order.ensures.ok
