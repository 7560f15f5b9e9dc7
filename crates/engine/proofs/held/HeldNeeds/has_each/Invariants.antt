use Rattle.std.specs.Prelude.{All, take}
use Rattle.model_base.specs.declared.statement.Access.{Access}
use Rattle.model_base.specs.Outcomes.{needs_of_access}
use Rattle.grants_base.specs.Book.{Entries}
use Rattle.engine.specs.Held.{AreHeld, HasAll}
use Rattle.engine.proofs.held.HeldNeeds.has_each.Given as goal

-- those of the first accesses are remembered
abbrev pub invariant-loop-access : goal.invariant-loop-access
invariant-loop-access l =
    (book : Entries) → AreHeld book l.self → All (λ (access : Access). HasAll book l.user (needs_of_access access)) (take l.access-index l.accesses)
