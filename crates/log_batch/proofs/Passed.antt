-- What is found among the slots of a batch.
use Rattle.std.proofs.Common.{◌≡◌, ◌<◌, ◌≤◌, ◌+◌, ◌-◌, ℕ, zero, suc, Bool, true, false, Some, None, List, [], ◌∷◌, length, take, drop, refl, sym, ◌∙◌, ap, arith, inl, inr}
use Rattle.std.specs.Prelude.{slice_get}
use Rattle.std.specs.Option.{option_map_or}
use Rattle.std.proofs.lemmas.Bool.{cases_lt}
use Rattle.std.proofs.lemmas.List.{length-take}
use Rattle.std.proofs.lemmas.Option.{slice_get_past}
use Rattle.model_base.specs.declared.deed.Grant.{Grant}
use Rattle.grants_base.specs.Index.{IsNext, passes_at}

-- what is taken of a list is there as it was, and after that there is nothing
taken-at : (grants : List Grant) (count k : ℕ) → k < count → slice_get (take count grants) k ≡ slice_get grants k
taken-at grants zero k less = absurd (omega arith)
taken-at [] (suc count) k less = refl
taken-at (first ∷ grants) (suc count) zero less = refl
taken-at (first ∷ grants) (suc count) (suc k) less = taken-at grants count k (omega arith)

behind-at : (grants : List Grant) (count k : ℕ) → slice_get (drop count grants) k ≡ slice_get grants (count + k)
behind-at grants zero k = let same : k ≡ 0 + k = omega arith in ap (λ i. slice_get grants i) same
behind-at [] (suc count) k = refl
behind-at (first ∷ grants) (suc count) k =
    let same : suc (count + k) ≡ suc count + k = omega arith in behind-at grants count k ∙ ap (λ i. slice_get (first ∷ grants) i) same

pub taken-past : (passes : Grant → Bool) (grants : List Grant) (count k : ℕ) → count ≤ k → passes_at passes (take count grants) k ≡ false
taken-past passes grants count k over =
    let long = length-take count grants in
    ap (λ found. option_map_or passes found false) (slice_get_past (take count grants) k (omega arith))

module _ (passes : Grant → Bool) (grants : List Grant) where
  -- the first of those that are taken is the first of all
  pub first-taken : (count from i : ℕ) → IsNext passes (take count grants) from (Some i) → IsNext passes grants from (Some i)
  first-taken count from i next =
      elim (cases_lt i count) [
        | inl less ↦ (
          next.0,
          ap (λ found. option_map_or passes found false) (sym (taken-at grants count i less)) ∙ next.1,
          λ k low high. ap (λ found. option_map_or passes found false) (sym (taken-at grants count k (omega arith))) ∙ next.2 k low high,
        )
        | inr over ↦ absurd (let both : true ≡ false = sym next.1 ∙ taken-past passes grants count i over in cc)
      ]

  passes-behind : (count k : ℕ) → passes_at passes (drop count grants) k ≡ passes_at passes grants (count + k)
  passes-behind count k = ap (λ found. option_map_or passes found false) (behind-at grants count k)

  -- where none is found among them, the first of the others is the first of all
  not-before : (count from i : ℕ) → ((k : ℕ) → from ≤ k → passes_at passes (take count grants) k ≡ false)
      → ((k : ℕ) → from - count ≤ k → k < i → passes_at passes (drop count grants) k ≡ false)
      → (k : ℕ) → from ≤ k → k < count + i → passes_at passes grants k ≡ false
  not-before count from i none before k low high =
      elim (cases_lt k count) [
        | inl less ↦ ap (λ found. option_map_or passes found false) (sym (taken-at grants count k less)) ∙ none k low
        | inr over ↦
            let is : count + (k - count) ≡ k = omega arith in
            ap (passes_at passes grants) (sym is) ∙ sym (passes-behind count (k - count)) ∙ before (k - count) (omega arith) (omega arith)
      ]

  pub first-behind : (count from i : ℕ) → ((k : ℕ) → from ≤ k → passes_at passes (take count grants) k ≡ false)
      → IsNext passes (drop count grants) (from - count) (Some i) → IsNext passes grants from (Some (count + i))
  first-behind count from i none next =
      let low = next.0 in (omega arith, sym (passes-behind count i) ∙ next.1, not-before count from i none next.2)

  pub none-behind : (count from : ℕ) → ((k : ℕ) → from ≤ k → passes_at passes (take count grants) k ≡ false)
      → IsNext passes (drop count grants) (from - count) None → IsNext passes grants from None
  none-behind count from none next k low =
      not-before count from (suc k) none (λ other above less. next other above) k low (omega arith)

  -- a grant that is there passes where it is asked for
  pub asked_here : (k : ℕ) (grant : Grant) → slice_get grants k ≡ Some grant → passes_at passes grants k ≡ passes grant
  asked_here k grant at = ap (λ found. option_map_or passes found false) at

  -- one that passes is there
  pub asked-within : (k : ℕ) → passes_at passes grants k ≡ true → k < length grants
  asked-within k passed =
      elim (cases_lt k (length grants)) [
        | inl less ↦ less
        | inr over ↦ absurd (let both : true ≡ false = sym passed ∙ ap (λ found. option_map_or passes found false) (slice_get_past grants k (omega arith)) in cc)
      ]
