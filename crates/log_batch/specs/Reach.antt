-- How far the slots are found that a batch may reach.
use Rattle.std.specs.Prelude.{◌≡◌, ◌<◌, ◌≤◌, ◌||◌, ◌⊎◌, ℕ, Bool, true, false, Option, List, IfSome}
use Rattle.model_base.specs.declared.deed.Grant.{Grant}
use Rattle.model_base.specs.declared.deed.Grantee.{Grantee}
use Rattle.model_base.specs.declared.deed.Kind.{Kind}
use Rattle.model_base.specs.declared.deed.Revocation.{Revocation}
use Rattle.grants_base.specs.Force.{gives_by}
use Rattle.grants_base.specs.Index.{is_by, is_one_of, passes_at}
use Rattle.grants.specs.Work.{LiesBefore}
use Rattle.bohm_core_base.specs.Batch.{Batch, batch_slots}
use Rattle.log_batch.specs.Earlier.{earlier_count, earlier_grants}
use Rattle.log_batch.specs.declared.reach.Party.{Party}
use Rattle.log_batch.specs.declared.reach.Party.TheVariants.{Between, By}
use Rattle.log_batch.specs.declared.reach.Reach.{Reach}
use Rattle.log_batch.specs.declared.revoked.Revoked.{Revoked}
use Rattle.log_batch.specs.Holders.{grantor_of, has_holder}
use Rattle.log_batch.specs.Listing.{is_lent, is_open, is_reached, is_revoked, listed_below}
use Rattle.log_batch.specs.Revoked.{is_named_by, names_of_kind, names_to}

-- whether the grant is by the user, to the holder's grantee where one is given, and is of the kind on the table
abbrev pub has_party : Party → Grant → Bool
has_party (Between user holder) = gives_by user holder.grantee holder.kind holder.table
has_party (By user kind table) = is_by user kind table

-- from one slot on, one of a grant before the batch that passes, and before it, or at all, none that has no end before the batch
pub record IsNextOpen (batch : Batch) (passes : Grant → Bool) (from : ℕ) (found : Option ℕ) : Type 0 where
  pub there : IfSome found (λ i. (from ≤ i) × (passes_at passes (earlier_grants batch) i ≡ true))
  pub passed : (k : ℕ) → from ≤ k → k < earlier_count batch → LiesBefore k found → is_open batch k ≡ true
      → passes_at passes (batch_slots batch) k ≡ false

-- to the slots that are due, some from one on were added, those below another all, that are open and whose grants pass the test
pub record Adds (batch : Batch) (passes : Grant → Bool) (start end : ℕ) (old new : List ℕ) : Type 0 where
  pub found : (j : ℕ) → start ≤ j → j < end → is_open batch j ≡ true
      → passes_at passes (batch_slots batch) j ≡ true → is_one_of new j ≡ true
  pub kept : (j : ℕ) → is_one_of old j ≡ true → is_one_of new j ≡ true
  pub only : (j : ℕ) → is_one_of new j ≡ true
      → (is_one_of old j ≡ true) ⊎ ((start ≤ j) × (j < earlier_count batch) × (is_open batch j ≡ true)
      × (passes_at passes (batch_slots batch) j ≡ true))

-- the grants that pass are those that are named, and which slots before the batch are due by them
pub record AreSeeds (batch : Batch) (passes : Grant → Bool) (revoked : Revoked) (due : List ℕ) : Type 0 where
  pub named : (grant : Grant) → is_named_by revoked grant ≡ passes grant
  pub all : (j : ℕ) → j < earlier_count batch → is_open batch j ≡ true
      → passes_at passes (batch_slots batch) j ≡ true → is_one_of due j ≡ true
  pub only : (j : ℕ) → is_one_of due j ≡ true
      → (j < earlier_count batch) × (is_open batch j ≡ true) × (passes_at passes (batch_slots batch) j ≡ true)

-- with the grants of a kind to a grantee that a revocation names, more are named and due by them
abbrev pub AddsKind : Batch → Revocation → Grantee → Kind → Revoked → Revoked → List ℕ → List ℕ → Type 0
AddsKind batch revocation grantee kind old new due more =
    (passes : Grant → Bool) → AreSeeds batch passes old due
    → AreSeeds batch (λ grant. names_of_kind revocation grantee kind grant || passes grant) new more

-- and so with those to some grantees
abbrev pub AddsGrantees : Batch → Revocation → List Grantee → Revoked → Revoked → List ℕ → List ℕ → Type 0
AddsGrantees batch revocation grantees old new due more =
    (passes : Grant → Bool) → AreSeeds batch passes old due
    → AreSeeds batch (λ grant. names_to revocation grantees grant || passes grant) new more

-- all slots below one are found that the batch may reach, to whom they give the option, and what its revocations name
pub record IsReach (batch : Batch) (low : ℕ) (reach : Reach) : Type 0 where
  pub slots : reach.slots.items ≡ listed_below batch low
  pub lent : (grant : Grant) → has_holder reach.lent (grantor_of grant) ≡ is_lent batch reach.slots.items grant
  pub revoked : (grant : Grant) → is_named_by reach.revoked grant ≡ is_revoked batch batch.size grant

-- from a slot on, those are due that are before the batch and that it may reach by the slots found so far
pub record IsDue (batch : Batch) (low : ℕ) (listed due : List ℕ) : Type 0 where
  pub all : (j : ℕ) → low ≤ j → j < earlier_count batch → is_reached batch listed j ≡ true → is_one_of due j ≡ true
  pub only : (j : ℕ) → is_one_of due j ≡ true → (low ≤ j) × (j < earlier_count batch) × (is_reached batch listed j ≡ true)
