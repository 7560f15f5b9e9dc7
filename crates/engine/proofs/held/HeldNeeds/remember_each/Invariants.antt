use Rattle.std.specs.List.{flat_map}
use Rattle.model_base.specs.Outcomes.{needs_of_access}
use Rattle.grants_base.specs.Book.{Entries}
use Rattle.engine.specs.Held.{AreHeld, HasAll}
use Rattle.engine.proofs.held.HeldNeeds.remember_each.Given as goal

-- what is remembered is held
abbrev pub invariant-loop-access : goal.invariant-loop-access
invariant-loop-access l = (book : Entries) → AreHeld book l.fn.self → HasAll book l.user (flat_map needs_of_access l.accesses) → AreHeld book l.self
