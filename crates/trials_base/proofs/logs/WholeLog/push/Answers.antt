use Rattle.trials_base.proofs.Pushing.{pushed}
use Rattle.trials_base.proofs.logs.WholeLog.push.Goals as goal

pub invariant_of-self : goal.invariant_of-self
invariant_of-self c =
    pushed c.self.inside.tail c.self.invariant c.dropped-dropped.ensures.whole c.args.statement.now c.push.new.self c.push.result c.push.ensures.accepted c.push.ensures.passes c.push.ensures.err
