-- A record has one slot at most.
use Rattle.std.proofs.Common.{◌≡◌, ◌<◌, ◌≤◌, ℕ, Some, List, get_or, arith, inl, inr}
use Rattle.std.specs.Prelude.{slice_get}
use Rattle.std.proofs.lemmas.Bool.{cases_lt}
use Rattle.std.proofs.lemmas.Option.{slice_get-get_or, slice_get_within}
use Rattle.model_base.specs.declared.deed.Grant.{Grant}
use Rattle.model_base.specs.Ranks.{rank}

-- where the grants are in order, and only those before a slot have ranks below one, no other slot has the grant of this rank
pub only-slot : (grants : List Grant) (slot ranked : ℕ)
    → ((k j : ℕ) (grant later : Grant) → k < j → slice_get grants k ≡ Some grant → slice_get grants j ≡ Some later → rank grant < rank later)
    → ((k : ℕ) (grant : Grant) → k < slot → slice_get grants k ≡ Some grant → rank grant < ranked)
    → ((k : ℕ) (grant : Grant) → slot ≤ k → slice_get grants k ≡ Some grant → ranked ≤ rank grant)
    → (other : ℕ) (grant : Grant) → slice_get grants other ≡ Some grant → rank grant ≡ ranked → other ≡ slot
only-slot grants slot ranked order below from other grant at same =
    elim (cases_lt other slot) [
      | inl less ↦ absurd (let low = below other grant less at in omega (arith, low, same))
      | inr not ↦
          elim (cases_lt slot other) [
            | inl less ↦
                absurd (
                let within = slice_get_within grants other grant at in
                let here = slice_get-get_or grants slot grant (omega (arith, within, less)) in
                let earlier = order slot other (get_or grants slot grant) grant less here at in
                let late = from slot (get_or grants slot grant) (omega arith) here in
                omega (arith, earlier, late, same))
            | inr none ↦ omega (arith, not, none)
          ]
    ]
