use Rattle.std.proofs.Common.{◌≡◌, ◌++◌, length}
use Rattle.model.proofs.deeds.make_rest.Given as goal

-- the deeds made so far, and those that are left, are all
abbrev pub invariant-deeds : goal.invariant-deeds
invariant-deeds l = l.deeds.items ++ l.rest ≡ l.initial.deeds.items ++ l.initial.rest

abbrev pub decreases-deeds : goal.decreases-deeds
decreases-deeds l = length l.rest
