use Rattle.engine.proofs.Holding.{held_granted}
use Rattle.engine.proofs.remembering.RememberingBook.grant.Goals as goal

pub invariant_of-self : goal.invariant_of-self
invariant_of-self c = held_granted c.grant.result c.self.inside.book c.grant.new.self c.self.inside.held c.args.grant c.grant.ensures.ok c.grant.ensures.err c.self.invariant
