use Rattle.std.proofs.Common.{◌-◌, ◌≡◌, ◌<◌, ℕ, Some, length, true}
use Rattle.std.specs.Prelude.{◌⊎◌}
use Rattle.model_base.specs.declared.deed.Grant.{Grant}
use Rattle.model_base.specs.Privileges.{names}
use Rattle.grants.specs.Pass.{concerned}
use Rattle.grants_base.specs.Index.{is_one_of}
use Rattle.grants_base.specs.View.{slot_at}
use Rattle.grants.proofs.cascade.add_each_named.Given as goal

-- the slots so far of the kind that the revocation names are due, with all that were
abbrev pub invariant-loop-from : goal.invariant-loop-from
invariant-loop-from g l = record {
  same : g.V.Records.shown l.view ≡ g.V.Records.shown l.initial.view;
  slots : l.end ≡ length (g.V.Records.shown l.initial.view).slots;
  found : (j : ℕ) (grant : Grant) → j < l.from → concerned (slot_at (g.V.Records.shown l.initial.view) j) l.revocation ≡ Some grant
      → grant.grantee ≡ l.grantee → grant.kind ≡ l.kind → names l.revocation grant ≡ true → is_one_of l.due j ≡ true;
  kept : (j : ℕ) → is_one_of l.initial.due j ≡ true → is_one_of l.due j ≡ true;
  within : (j : ℕ) → is_one_of l.due j ≡ true → (is_one_of l.initial.due j ≡ true) ⊎ (j < length (g.V.Records.shown l.initial.view).slots);
}

abbrev pub decreases-loop-from : goal.decreases-loop-from
decreases-loop-from g l = l.end - l.from
