use Rattle.std.proofs.Common.{ℕ, Result, drop}
use Rattle.std.specs.List.{flat_map}
use Rattle.model_base.specs.declared.deed.Need.{Need}
use Rattle.model_base.specs.Outcomes.{needs_of_access}
use Rattle.explain.specs.Indexed.{IsItemAt}
use Rattle.explain.proofs.needs.need_of_accesses.Given as goal

-- what is found in the accesses that are left is found in all
abbrev pub invariant-loop-access : goal.invariant-loop-access
invariant-loop-access l =
    (result : Result Need ℕ) → IsItemAt (flat_map needs_of_access (drop l.access-index l.accesses)) l.left result → IsItemAt (flat_map needs_of_access l.accesses) l.index result
