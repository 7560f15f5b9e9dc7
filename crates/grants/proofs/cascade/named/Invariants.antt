use Rattle.std.proofs.Common.{◌≡◌, ◌<◌, ℕ, Some, length, take, true}
use Rattle.model_base.specs.declared.deed.Grant.{Grant}
use Rattle.model_base.specs.Privileges.{has_grantee, names}
use Rattle.grants.specs.Pass.{concerned}
use Rattle.grants_base.specs.Index.{is_one_of}
use Rattle.grants_base.specs.View.{slot_at}
use Rattle.grants.proofs.cascade.named.Given as goal

-- the slots that the revocation names to the grantees so far are due
abbrev pub invariant-loop-index : goal.invariant-loop-index
invariant-loop-index g l = record {
  same : g.V.Records.shown l.view ≡ g.V.Records.shown l.initial.view;
  found : (j : ℕ) (grant : Grant) → concerned (slot_at (g.V.Records.shown l.initial.view) j) l.revocation ≡ Some grant
      → has_grantee (take l.index l.revocation.grantees) grant.grantee ≡ true → names l.revocation grant ≡ true → is_one_of l.due j ≡ true;
  within : (j : ℕ) → is_one_of l.due j ≡ true → j < length (g.V.Records.shown l.initial.view).slots;
}
