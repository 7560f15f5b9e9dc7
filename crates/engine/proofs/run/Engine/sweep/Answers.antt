use Rattle.std.proofs.Common.{◌++◌}
use Rattle.engine.specs.Engine.{Run}
use Rattle.engine.proofs.Advanced.{run_left}
use Rattle.engine.proofs.run.Engine.sweep.Goals as goal

pub invariant_of-self : goal.invariant_of-self
invariant_of-self c =
    let e = c.self.inside in
    let run : Run = record { log = e.log.log; store = e.state.chains; book = e.state.book; outcomes = e.past.items ++ e.outcomes.items; dropped = e.log.dropped } in
    record {
      is = run_left run c.sweep.new.self c.self.invariant.is c.sweep.ensures.swept.end (c.sweep.ensures.right e.log.log.statements);
      same = c.self.invariant.same;
    }
