-- The ends that are given, in the order of their slots, give of each place what the serial run ends there.
use Rattle.std.proofs.Common.{◌≡◌, ◌<◌, ◌≤◌, ◌+◌, ℕ, suc, Bool, true, false, Some, None, List, [], ◌∷◌, eqb, ltb, get_or, length, refl, ap, sym, ◌∙◌, subst, arith, inl, inr, zero-add}
use Rattle.std.specs.Prelude.{◌==◌, slice_get}
use Rattle.std.specs.BTreeMap.{IsOrdered, is_at}
use Rattle.std.specs.List.{AllByRecursion}
use Rattle.std.specs.List.Sorted.{IsStrictlySortedBy}
use Rattle.std.specs.Map.{keys_of, lookup}
use Rattle.std.specs.Ordering.{nat_cmp}
use Rattle.std.specs.declared.cmp.Ordering.TheVariants.{Less, Equal, Greater}
use Rattle.std.proofs.lemmas.Bool.{cases_eq, ltb-true}
use Rattle.std.proofs.lemmas.Bool.Decides.{nat_tests}
use Rattle.std.proofs.lemmas.List.{get_or-map}
use Rattle.model_base.specs.declared.deed.Grant.{Grant}
use Rattle.model_base.specs.Ranks.{rank}
use Rattle.model_base.proofs.Replay.{by_cases}
use Rattle.bohm_core_base.specs.Batch.{Batch, rank_at, batch_slots}
use Rattle.bohm_core_base.specs.Serial.{is_end, serial_ends}
use Rattle.bohm_core_base.proofs.Whole.{is_end-some, no_grant, serial-ends-from}
use Rattle.log_batch.specs.Laws.{ranks_that}
use Rattle.log_batch.proofs.SlotsEnded.{same_test}
use Rattle.filling.specs.declared.completion.ends.Ends.{Ends}
use Rattle.filling.specs.Ends.{AreSerialEnds, NotesEndsOf, ended_among, noted_end}

-- one number is found by another where they are the same
at-is : (x y : ℕ) → is_at (nat_cmp x) y ≡ eqb x y
at-is x y =
    by_cases (ltb x y)
    (λ less. let other : eqb x y ≡ false = grind (arith, nat_tests) in rw (less, other) refl)
    (λ same. rw same (by_cases (eqb x y) (λ e. rw e refl) (λ e. rw e refl)))

less-is : (x y : ℕ) → nat_cmp x y ≡ Less → x < y
less-is x y less =
    by_cases (ltb x y)
    (λ low. ltb-true x y low)
    (λ not. by_cases (eqb x y)
    (λ same. (let no : Equal ≡ Less = rw (not, same) at less in absurd (cc)))
    (λ differs. (let no : Greater ≡ Less = rw (not, differs) at less in absurd (cc))))

-- the slots rise, from one on, and lie below another
abbrev Above : ℕ → List (ℕ × ℕ) → Type 0
Above low [] = Unit {0}
Above low (one ∷ ends) = (low ≤ one.0) × Above low ends

abbrev Rises : ℕ → List (ℕ × ℕ) → Type 0
Rises low [] = Unit {0}
Rises low (one ∷ ends) = (low ≤ one.0) × Rises (suc one.0) ends

abbrev Below : ℕ → List (ℕ × ℕ) → Type 0
Below high [] = Unit {0}
Below high (one ∷ ends) = (one.0 < high) × Below high ends

above-first : (x : ℕ) (ends : List (ℕ × ℕ)) → AllByRecursion (λ y. nat_cmp x y ≡ Less) (keys_of ends) → Above (suc x) ends
above-first x [] all = tt
above-first x (one ∷ ends) all = (let low = less-is x one.0 all.0 in omega arith, above-first x ends all.1)

rises : (low : ℕ) (ends : List (ℕ × ℕ)) → Above low ends → IsStrictlySortedBy nat_cmp (keys_of ends) → Rises low ends
unfolding IsStrictlySortedBy
rises low [] above sorted = tt
rises low (one ∷ ends) above sorted = (above.0, rises (suc one.0) ends (above-first one.0 ends sorted.0) sorted.1)

above-none : (ends : List (ℕ × ℕ)) → Above 0 ends
above-none [] = tt
above-none (one ∷ ends) = (omega arith, above-none ends)

-- what each entry has
below-all : (high : ℕ) (ends : List (ℕ × ℕ)) → ((i slot end : ℕ) → slice_get ends i ≡ Some (slot, end) → slot < high) → Below high ends
below-all high [] each = tt
below-all high (one ∷ ends) each = (each 0 one.0 one.1 refl, below-all high ends (λ i slot end at. each (suc i) slot end at))

-- a slot below all has none
lookup-below : (low : ℕ) (ends : List (ℕ × ℕ)) (slot : ℕ) → Rises low ends → slot < low → lookup (is_at (nat_cmp slot)) ends ≡ None
lookup-below low [] slot rise less = refl
lookup-below low (one ∷ ends) slot rise less =
    let other : eqb slot one.0 ≡ false = let from = rise.0 in grind (arith, nat_tests) in
    rw (at-is slot one.0, other) (lookup-below (suc one.0) ends slot rise.1 (let from = rise.0 in omega arith))

lookup-first : (one : ℕ × ℕ) (ends : List (ℕ × ℕ)) (slot : ℕ) → slot ≡ one.0 → lookup (is_at (nat_cmp slot)) (one ∷ ends) ≡ Some one.1
lookup-first one ends slot same =
    let here : eqb slot one.0 ≡ true = grind (arith, nat_tests) in
    rw (at-is slot one.0, here) refl

lookup-later : (one : ℕ × ℕ) (ends : List (ℕ × ℕ)) (slot : ℕ) → one.0 < slot
    → lookup (is_at (nat_cmp slot)) (one ∷ ends) ≡ lookup (is_at (nat_cmp slot)) ends
lookup-later one ends slot less =
    let other : eqb slot one.0 ≡ false = grind (arith, nat_tests) in
    rw (at-is slot one.0, other) refl

module _ (b : Batch) (place : ℕ) (test : ℕ → Bool) where
  among : (grants : List Grant) (slot : ℕ) (ends : List (ℕ × ℕ))
      → ((k : ℕ) → k < length grants → rank_at b (slot + k) ≡ rank (get_or grants k no_grant))
      → Rises slot ends → Below (slot + length grants) ends
      → ((k : ℕ) → k < length grants → is_end place (lookup (is_at (nat_cmp (slot + k))) ends) ≡ test (slot + k))
      → ended_among b place ends ≡ ranks_that test slot grants
  among [] slot [] ranks rise below tells = refl
  among [] slot (one ∷ ends) ranks rise below tells = absurd (let from = rise.0 in let low = below.0 in omega arith)
  among (grant ∷ grants) slot [] ranks rise below tells =
      let first : slot + 0 ≡ slot = omega arith in
      let here : test slot ≡ false = ap test (sym first) ∙ sym (tells 0 (omega arith)) in
      rw here
      (among grants (suc slot) []
      (λ k less. let next : suc slot + k ≡ slot + suc k = omega arith in ap (rank_at b) next ∙ ranks (suc k) (omega arith))
      tt tt
      (λ k less. let next : slot + suc k ≡ suc slot + k = omega arith in tells (suc k) (omega arith) ∙ ap test next))
  among (grant ∷ grants) slot (one ∷ ends) ranks rise below tells =
      let from = rise.0 in
      let first : slot + 0 ≡ slot = omega arith in
      let told : is_end place (lookup (is_at (nat_cmp slot)) (one ∷ ends)) ≡ test slot =
      ap (λ n. is_end place (lookup (is_at (nat_cmp n)) (one ∷ ends))) (sym first) ∙ tells 0 (omega arith) ∙ ap test first in
      let grants-rest : (k : ℕ) → k < length grants → rank_at b (suc slot + k) ≡ rank (get_or grants k no_grant) =
      λ k less. let next : suc slot + k ≡ slot + suc k = omega arith in ap (rank_at b) next ∙ ranks (suc k) (omega arith) in
      let tells-rest : (k : ℕ) → k < length grants → is_end place (lookup (is_at (nat_cmp (suc slot + k))) (one ∷ ends)) ≡ test (suc slot + k) =
      λ k less. let next : suc slot + k ≡ slot + suc k = omega arith in
      ap (λ n. is_end place (lookup (is_at (nat_cmp n)) (one ∷ ends))) next ∙ tells (suc k) (omega arith) ∙ ap test (sym next) in
      let wide : suc slot + length grants ≡ slot + suc (length grants) = omega arith in
      elim (cases_eq slot one.0) [
        | inl same ↦
            (let here : test slot ≡ (one.1 == place) = sym told ∙ ap (is_end place) (lookup-first one ends slot same) in
            let at : rank_at b one.0 ≡ rank grant = ap (rank_at b) (sym same ∙ sym first) ∙ ranks 0 (omega arith) in
            let rest : ended_among b place ends ≡ ranks_that test (suc slot) grants =
            among grants (suc slot) ends grants-rest
            (subst (λ n. Rises (suc n) ends) (sym same) rise.1)
            (subst (λ n. Below n ends) (sym wide) below.1)
            (λ k less. ap (is_end place) (sym (lookup-later one ends (suc slot + k) (omega arith))) ∙ tells-rest k less) in
            by_cases (one.1 == place)
            (λ ended. rw (here, ended) (ap (λ p. p ∷ ended_among b place ends) at ∙ ap (λ others. rank grant ∷ others) rest))
            (λ other. rw (here, other) rest))
        | inr differs ↦
            (let less : slot < one.0 = omega arith in
            let none = lookup-below (suc slot) (one ∷ ends) slot (omega arith, rise.1) (omega arith) in
            let here : test slot ≡ false = sym told ∙ ap (is_end place) none in
            rw here
            (among grants (suc slot) (one ∷ ends) grants-rest (omega arith, rise.1) (subst (λ n. Below n (one ∷ ends)) (sym wide) below) tells-rest))
      ]

module _ (b : Batch) (n : ℕ) (ends : Ends) (told : AreSerialEnds b ends) (all : NotesEndsOf b n ends) where
  abbrev place : ℕ
  place = b.first + n

  tells-slot : (k : ℕ) → k < length (batch_slots b) → is_end place (noted_end ends k) ≡ serial_ends b n k
  tells-slot k slot =
      same_test (is_end place (noted_end ends k)) (serial_ends b n k)
      (λ here. serial-ends-from b n k place (told.whole k place (is_end-some place (noted_end ends k) here)) refl)
      (λ set. ap (is_end place) (all k slot set) ∙ (let same : (place == place) ≡ true = grind (arith, nat_tests) in same))

  -- of the place all are given that it ends
  pub ended-right : IsOrdered nat_cmp ends.places → ((i slot end : ℕ) → slice_get ends.places.entries i ≡ Some (slot, end) → slot < length (batch_slots b))
      → ended_among b place ends.places.entries ≡ ranks_that (serial_ends b n) 0 (batch_slots b)
  ended-right ordered slots =
      among b place (serial_ends b n) (batch_slots b) 0 ends.places.entries
      (λ k slot. ap (rank_at b) (zero-add k) ∙ get_or-map rank (batch_slots b) k no_grant 0 slot)
      (rises 0 ends.places.entries (above-none ends.places.entries) ordered)
      (subst (λ high. Below high ends.places.entries) (sym (zero-add (length (batch_slots b)))) (below-all (length (batch_slots b)) ends.places.entries slots))
      (λ k slot. ap (λ at. is_end place (noted_end ends at)) (zero-add k) ∙ tells-slot k slot ∙ ap (serial_ends b n) (sym (zero-add k)))
