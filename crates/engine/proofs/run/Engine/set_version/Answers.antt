use Rattle.std.proofs.Common.{◌++◌}
use Rattle.engine.proofs.Pushed.{versioned}
use Rattle.engine.proofs.run.Engine.set_version.Goals as goal

pub invariant_of-self : goal.invariant_of-self
invariant_of-self c =
    let e = c.self.inside in
    versioned e.log e.state.chains e.state.book (e.past.items ++ e.outcomes.items) e.past.items c.args.version c.self.invariant
    c.set_version.new.self c.set_version.ensures
