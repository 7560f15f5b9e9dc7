use Rattle.engine.proofs.Advanced.{kept_to, runs_to}
use Rattle.engine.proofs.run.Engine.run_to.Goals as goal

pub invariant_of-self-2 : goal.invariant_of-self-2
invariant_of-self-2 g c =
    let e = c.self.inside in
    let ran = c.run_range.new in
    kept_to e.log e.state ran.state e.past.items e.outcomes.items ran.outcomes.items c.args.self.now c.self.view_is c.self.invariant c.finished-start.result c.args.end
    c.finished-start.ensures.count c.requires.order c.requires.within c.in_ok-run_range.ensures.ok

pub returns-clause-runs : goal.returns-clause-runs
returns-clause-runs g c =
    let e = c.self.inside in
    let ran = c.run_range.new in
    runs_to e.log e.state ran.state e.past.items e.outcomes.items ran.outcomes.items c.args.self.now c.self.view_is c.self.invariant c.finished-start.result c.args.end
    c.finished-start.ensures.count c.requires.order c.requires.within c.in_ok-run_range.ensures.ok
