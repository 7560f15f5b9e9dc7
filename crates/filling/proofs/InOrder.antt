-- The listed slots rise, so a number of a slot is found by halving.
use Rattle.std.proofs.Common.{◌≡◌, ℕ, zero, suc, ◌<◌, ◌≤◌, ◌++◌, List, [], ◌∷◌, length, get_or, arith, inl, inr}
use Rattle.std.specs.Prelude.{Result, Ok, Err, MatchResult}
use Rattle.std.specs.Option.{MatchOption}
use Rattle.std.specs.Result.{result_ok}
use Rattle.std.specs.List.Sorted.{IsStrictlyIncreasing}
use Rattle.std.proofs.lemmas.Bool.{cases_lt}
use Rattle.std.proofs.lemmas.List.{get_or_append_left, get_or_push, length_push}
use Rattle.model_base.proofs.Replay.{by_cases}
use Rattle.bohm_core_base.specs.Batch.{Batch, batch_slots}
use Rattle.words.specs.Layout.{listed_slot_at}
use Rattle.words.specs.Views.{In}
use Rattle.log_batch.specs.Listing.{is_reached, listed_below, listed_slots}
use Rattle.filling.proofs.Lists.{in-at, rises-more}

below-more : (n : ℕ) (l : List ℕ) → ((k : ℕ) → k < length l → get_or l k 0 < n) → (k : ℕ) → k < length (l ++ n ∷ []) → get_or (l ++ n ∷ []) k 0 < suc n
below-more n l below k within =
    let wide = length_push l n in
    elim (cases_lt k (length l)) [
      | inl less ↦ (let is = get_or_append_left l (n ∷ []) 0 k less in let low = below k less in omega arith)
      | inr more ↦ (let last : length l ≡ k = omega arith in let is = get_or_push l n 0 k last in omega arith)
    ]

module _ (b : Batch) where
  listed-low : (n : ℕ) → (k : ℕ) → k < length (listed_below b n) → get_or (listed_below b n) k 0 < n
  listed-low zero = λ k within. absurd (omega arith)
  listed-low (suc n) =
      by_cases (is_reached b (listed_below b n) n)
      (λ may. rw may (below-more n (listed_below b n) (listed-low n)))
      (λ fails. rw fails (λ k within. (let low = listed-low n k within in omega arith)))

  listed-rise : (n : ℕ) → IsStrictlyIncreasing (listed_below b n)
  listed-rise zero = λ k within. absurd (omega arith)
  listed-rise (suc n) =
      by_cases (is_reached b (listed_below b n) n)
      (λ may. rw may (rises-more (listed_below b n) n (listed-rise n) (listed-low n)))
      (λ fails. rw fails (listed-rise n))

  pub slots-rise : IsStrictlyIncreasing (listed_slots b)
  slots-rise = listed-rise (length (batch_slots b))

-- what a search by halving says
pub found-number : (slots : List ℕ) (slot : ℕ) (found : Result ℕ ℕ)
    → MatchResult found (λ i. (i < length slots) × (get_or slots i 0 ≡ slot))
    (λ i. (i ≤ length slots) × ((k : ℕ) → k < i → get_or slots k 0 < slot) × ((k : ℕ) → i ≤ k → k < length slots → slot < get_or slots k 0))
    → MatchOption (result_ok found) (¬ (In slot slots)) (λ number. (number < length slots) × (listed_slot_at slots number ≡ slot))
found-number slots slot (Ok i) told = told
found-number slots slot (Err i) told =
    λ has.
    let at = in-at slot slots has in
    let here = at.2 in
    elim (cases_lt at.0 i) [
      | inl less ↦ (let low = told.1 at.0 less in omega arith)
      | inr more ↦ (let high = told.2 at.0 more at.1 in omega arith)
    ]
