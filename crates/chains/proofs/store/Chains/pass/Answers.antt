use Rattle.chains.proofs.Placed.{passed}
use Rattle.chains.proofs.store.Chains.pass.Goals as goal

pub invariant_of-self : goal.invariant_of-self
invariant_of-self c = (passed c.self.invariant.0, c.self.invariant.1)
