use Rattle.std.proofs.Common.{◌≡◌, ◌++◌, length}
use Rattle.model_base.specs.Records.{grants_of}
use Rattle.log_batch.proofs.batch.push_grants.Given as goal

-- the grants so far, and those among the deeds that are left, are all
abbrev pub invariant-deeds : goal.invariant-deeds
invariant-deeds l = l.grants ++ grants_of l.deeds ≡ l.initial.grants ++ grants_of l.initial.deeds

abbrev pub decreases-deeds : goal.decreases-deeds
decreases-deeds l = length l.deeds
