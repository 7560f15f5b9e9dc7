use Rattle.std.proofs.Common.{◌++◌}
use Rattle.log_text.specs.LineBuffers.{sentence_of}
use Rattle.engine.proofs.Pushed.{pushed, run_pushes}
use Rattle.engine.proofs.run.Engine.push_read.Goals as goal

pub invariant_of-self : goal.invariant_of-self
invariant_of-self c =
    let e = c.self.inside in
    pushed e.log e.state.chains e.state.book (e.past.items ++ e.outcomes.items) c.self.invariant.is c.dropped-dropped.ensures.whole c.dropped-dropped.ensures.own_tables
    e.past.items c.self.invariant.same (sentence_of c.args.read.now) c.push_read.new.self c.push_read.result c.push_read.ensures

pub returns : goal.returns
returns c =
    let e = c.self.inside in
    run_pushes e.log c.push_read.new.self e.state.chains e.state.book (e.past.items ++ e.outcomes.items) c.args.self.now c.self.view_is (sentence_of c.args.read.now) c.push_read.result c.push_read.ensures
