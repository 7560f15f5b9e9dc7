-- The first number that passes a test, found by going up.
use Rattle.std.proofs.Common.{◌≡◌, ℕ, ◌+◌, ◌<◌, ◌≤◌, Bool, true, false, Some, None, ◌∙◌, ap, arith, inl, inr}
use Rattle.std.proofs.lemmas.Bool.{cases_lt}
use Rattle.grants_base.specs.Index.{IsFirst}

-- none of some slots passes
abbrev pub NoneBetween : (ℕ → Bool) → ℕ → ℕ → Type 0
NoneBetween test low high = (k : ℕ) → low ≤ k → k < high → test k ≡ false

module _ (test : ℕ → Bool) (start from : ℕ) (so_far : NoneBetween test start from) where
  pub one-passed : (slot : ℕ) → NoneBetween test from slot → test slot ≡ false → NoneBetween test start (slot + 1)
  one-passed slot skipped here k low high =
      elim (cases_lt k from) [
        | inl before ↦ so_far k low before
        | inr after ↦ elim (cases_lt k slot) [
          | inl less ↦ skipped k after less
          | inr over ↦ (let same : k ≡ slot = omega arith in ap test same ∙ here)
        ]
      ]

  pub one-found : (slot : ℕ) → start ≤ from → from ≤ slot → NoneBetween test from slot → test slot ≡ true → IsFirst test start (Some slot)
  one-found slot above later skipped here = (
    omega arith,
    here,
    λ k low high. elim (cases_lt k from) [ inl before ↦ so_far k low before | inr after ↦ skipped k after high ],
  )

  pub none-found : ((k : ℕ) → from ≤ k → test k ≡ false) → IsFirst test start None
  none-found never k low = elim (cases_lt k from) [ inl before ↦ so_far k low before | inr after ↦ never k after ]
