use Rattle.std.proofs.Common.{arith}
use Rattle.chains.proofs.store.Chains.trim.Goals as goal

pub invariant_of-self : goal.invariant_of-self
invariant_of-self c = (
  c.trim-gone.ensures.kept c.self.inside.absent.items c.self.inside.mark c.self.inside.end c.self.invariant.0 (omega arith) (omega arith),
  λ is. c.trim-gone.ensures.noted c.self.inside.absent.items (c.self.invariant.1 is),
)
