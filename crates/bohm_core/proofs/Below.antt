-- A test on all numbers below one.
use Rattle.std.proofs.Common.{◌≡◌, ◌<◌, ◌&&◌, ℕ, suc, zero, Bool, true, false, refl, arith, inl, inr}
use Rattle.std.proofs.lemmas.Bool.{cases_eq}
use Rattle.bohm_core_base.specs.Machine.{all_below}

-- where a number below one fails, not all below it pass
pub all_below_fails : (test : ℕ → Bool) (n k : ℕ) → k < n → test k ≡ false → all_below test n ≡ false
all_below_fails test zero k below fails = absurd (omega arith)
all_below_fails test (suc n) k below fails =
    elim (cases_eq k n) [
      | inl same ↦ rw (← same, fails) refl
      | inr other ↦ by_first (test n) (all_below_fails test n k (omega arith) fails)
    ]
  where
    by_first : (first : Bool) → all_below test n ≡ false → (first && all_below test n) ≡ false
    by_first true rest = rest
    by_first false rest = refl
