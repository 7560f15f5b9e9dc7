-- The listed slots are no more than there are slots: each is listed once.
use Rattle.std.proofs.Common.{◌≡◌, ◌<◌, ◌≤◌, ◌||◌, ℕ, suc, true, List, [], ◌∷◌, get_or, length, sym, ap, ◌∙◌, arith}
use Rattle.std.specs.List.{IsDistinct, list_any}
use Rattle.std.specs.Prelude.{◌==◌}
use Rattle.std.proofs.lemmas.Bool.{eqb-true}
use Rattle.std.proofs.lemmas.Grind.{get_or_default_zero}
use Rattle.std.proofs.lemmas.Map.Keys.{IsDistinct-from_apart}
use Rattle.std.proofs.lemmas.Map.Steps.{length-le_from_distinct_below}
use Rattle.model_base.proofs.Replay.{by_cases}
use Rattle.bohm_core_base.specs.Batch.{Batch, batch_slots}
use Rattle.words.specs.Layout.{IsListed}

-- where each number of a list lies below a bound, so does a number that is in it
below : (bound : ℕ) (numbers : List ℕ) → ((k : ℕ) → k < length numbers → get_or numbers k 0 < bound)
    → (number : ℕ) → list_any (λ other. number == other) numbers ≡ true → number < bound
below bound [] each number any = absurd (cc)
below bound (first ∷ numbers) each number any =
    by_cases (number == first)
    (λ same. let is : number ≡ first = eqb-true number first same in let low : first < bound = each 0 (omega arith) in omega arith)
    (λ other. below bound numbers (λ k less. each (suc k) (omega arith)) number
    (sym (ap (λ b. b || list_any (λ other. number == other) numbers) other) ∙ any))

module _ (b : Batch) (listed : List ℕ) (is : IsListed b listed) where
  distinct : IsDistinct (λ one other. one == other) listed
  distinct = IsDistinct-from_apart (λ one other. one == other) listed
      (λ i j d less within.
      by_cases (get_or listed i d == get_or listed j d)
      (λ same. absurd (
      let here = get_or_default_zero listed i d (omega arith) in
      let there = get_or_default_zero listed j d within in
      let one = is.apart i j (omega arith) within (sym here ∙ eqb-true (get_or listed i d) (get_or listed j d) same ∙ there) in
      omega arith))
      (λ differ. differ))

  pub few-listed : length listed ≤ length (batch_slots b)
  few-listed = length-le_from_distinct_below listed (length (batch_slots b)) distinct (below (length (batch_slots b)) listed is.within)
