-- Where a grant lies among the records of a book and later grants, in order.
use Rattle.std.proofs.Common.{◌≡◌, ◌<◌, ◌≤◌, ◌+◌, ◌++◌, ◌∷◌, [], ℕ, zero, suc, true, false, List, Some, length, get_or, ltb, refl, ap, ◌∙◌, subst, arith, inl, inr}
use Rattle.std.specs.Prelude.{slice_get}
use Rattle.std.specs.List.Sorted.{IsNonDecreasingBy, IsPartitionPoint}
use Rattle.std.specs.Option.{option_map}
use Rattle.std.proofs.lemmas.Bool.{cases_lt}
use Rattle.std.proofs.lemmas.Option.{get_or_from_slice_get, slice_get-get_or, slice_get-map, slice_get_within}
use Rattle.model_base.specs.declared.deed.Grant.{Grant}
use Rattle.model_base.specs.declared.deed.Record.{Record}
use Rattle.model_base.specs.Laws.{IsRising}
use Rattle.model_base.specs.Ranks.{rank}
use Rattle.model_base.specs.Records.{recorded}
use Rattle.grants_base.specs.Book.{unended}
use Rattle.grants_base.proofs.Lookups.{less_false, less_true}
use Rattle.grants_base.proofs.Walks.{length-recorded}
use Rattle.grants.proofs.BookLaws.{get_more}

pub grants_rise : (grants : List Grant) → IsRising grants → IsNonDecreasingBy rank grants
grants_rise [] rising zero j d le less = absurd (omega arith)
grants_rise [] rising (suc i) j d le less = absurd (omega arith)
grants_rise (x ∷ xs) rising zero zero d le less = omega arith
grants_rise (x ∷ xs) rising zero (suc j) d le less = let above = rising.0 j d (omega arith) in omega arith
grants_rise (x ∷ xs) rising (suc i) zero d le less = absurd (omega arith)
grants_rise (x ∷ xs) rising (suc i) (suc j) d le less = grants_rise xs rising.1 i j d (omega arith) (omega arith)

-- so are records
recorded_get : (entries : List Record) (k : ℕ) (d : Record) → get_or (recorded entries) k d.grant ≡ (get_or entries k d).grant
recorded_get [] k d = refl
recorded_get (x ∷ xs) zero d = refl
recorded_get (x ∷ xs) (suc k) d = recorded_get xs k d

pub records_rise : (entries : List Record) → IsRising (recorded entries) → IsNonDecreasingBy (λ (entry : Record). rank entry.grant) entries
records_rise entries rising i j d le less =
    let rise = grants_rise (recorded entries) rising i j d.grant le (omega (arith, less, length-recorded entries)) in
    let low : rank (get_or (recorded entries) i d.grant) ≡ rank (get_or entries i d).grant = ap rank (recorded_get entries i d) in
    let high : rank (get_or (recorded entries) j d.grant) ≡ rank (get_or entries j d).grant = ap rank (recorded_get entries j d) in
    omega (arith, rise, low, high)

pub rise_grants : (grants : List Grant) → IsRising grants → (i j : ℕ) (a b : Grant) → slice_get grants i ≡ Some a → slice_get grants j ≡ Some b → i < j → rank a < rank b
rise_grants [] rising i j a b at_i at_j less = absurd (cc)
rise_grants (x ∷ xs) rising i zero a b at_i at_j less = absurd (omega arith)
rise_grants (x ∷ xs) rising zero (suc j) a b at_i at_j less =
    let same : x ≡ a = cc in
    let above = rising.0 j b (slice_get_within xs j b at_j) in
    let here : rank (get_or xs j b) ≡ rank b = ap rank (get_or_from_slice_get xs j b b at_j) in
    let first : rank x ≡ rank a = ap rank same in
    omega arith
rise_grants (x ∷ xs) rising (suc i) (suc j) a b at_i at_j less = rise_grants xs rising.1 i j a b at_i at_j (omega arith)

pub rising_last : (first last : List Grant) → IsRising (first ++ last) → IsRising last
rising_last [] last rising = rising
rising_last (x ∷ first) last rising = rising_last first last rising.1

-- the point of a partition by a rank is where the grant of the rank lies
pub pointed : (grants : List Grant) → IsRising grants → (ranked point : ℕ)
    → IsPartitionPoint (λ (grant : Grant). ltb (rank grant) ranked ≡ true) (λ (grant : Grant). ltb (rank grant) ranked ≡ false) grants point
    → (index : ℕ) (grant : Grant) → slice_get grants index ≡ Some grant → rank grant ≡ ranked → point ≡ index
pointed [] rising ranked point parts index grant at is = absurd (cc)
pointed (x ∷ xs) rising ranked zero parts zero grant at is = refl
pointed (x ∷ xs) rising ranked zero parts (suc index) grant at is =
    let low = less_false (rank x) ranked (parts.1 0 x (omega arith) (omega arith)) in
    let above = rising.0 index grant (slice_get_within xs index grant at) in
    let here : rank (get_or xs index grant) ≡ rank grant = ap rank (get_or_from_slice_get xs index grant grant at) in
    absurd (omega (arith, low, above, here, is))
pointed (x ∷ xs) rising ranked (suc point) parts zero grant at is =
    let less = less_true (rank x) ranked (parts.0 0 x (omega arith) (omega arith)) in
    let same : x ≡ grant = cc in
    let here : rank x ≡ rank grant = ap rank same in
    absurd (omega (arith, less, here, is))
pointed (x ∷ xs) rising ranked (suc point) parts (suc index) grant at is =
    ap suc (pointed xs rising.1 ranked point
    ((λ k d low high. parts.0 (suc k) d (omega arith) (omega arith)), (λ k d low high. parts.1 (suc k) d (omega arith) (omega arith))) index grant at is)

-- what a partition by a rank says of each record
module _ (entries : List Record) (ranked slot : ℕ) (point : IsPartitionPoint (λ (entry : Record). ltb (rank entry.grant) ranked ≡ true) (λ (entry : Record). ltb (rank entry.grant) ranked ≡ false) entries slot) where
  pub told_before : (k : ℕ) (entry : Record) → slice_get entries k ≡ Some entry → k < slot → rank entry.grant < ranked
  told_before k entry at less =
      let here = get_or_from_slice_get entries k entry entry at in
      less_true (rank entry.grant) ranked (subst (λ (e : Record). ltb (rank e.grant) ranked ≡ true) here (point.0 k entry (omega arith) less))

  pub told_from : (k : ℕ) (entry : Record) → slice_get entries k ≡ Some entry → slot ≤ k → ranked ≤ rank entry.grant
  told_from k entry at low =
      let here = get_or_from_slice_get entries k entry entry at in
      less_false (rank entry.grant) ranked (subst (λ (e : Record). ltb (rank e.grant) ranked ≡ false) here (point.1 k entry low (slice_get_within entries k entry at)))

-- what is found in two lists is in the first or in the second
get_first : {X : Type 0} (xs ys : List X) (k : ℕ) (y : X) → k < length xs → slice_get (xs ++ ys) k ≡ Some y → slice_get xs k ≡ Some y
get_first [] ys k y less at = absurd (omega arith)
get_first (x ∷ xs) ys zero y less at = at
get_first (x ∷ xs) ys (suc k) y less at = get_first xs ys k y (omega arith) at

get_last : {X : Type 0} (xs ys : List X) (k : ℕ) (y : X) → length xs ≤ k → slice_get (xs ++ ys) k ≡ Some y → (j : ℕ) × (k ≡ length xs + j) × (slice_get ys j ≡ Some y)
get_last [] ys k y le at = (k, omega arith, at)
get_last (x ∷ xs) ys zero y le at = absurd (omega arith)
get_last (x ∷ xs) ys (suc k) y le at =
    let rest = get_last xs ys k y (omega arith) at in
    let same : suc k ≡ length (x ∷ xs) + rest.0 = omega (arith, rest.1) in
    (rest.0, same, rest.2)

entry_of : (entries : List Record) (k : ℕ) (grant : Grant) → slice_get (recorded entries) k ≡ Some grant
    → (entry : Record) × (slice_get entries k ≡ Some entry) × (entry.grant ≡ grant)
entry_of [] k grant at = absurd (cc)
entry_of (x ∷ xs) zero grant at = let same : x.grant ≡ grant = cc in (x, refl, same)
entry_of (x ∷ xs) (suc k) grant at = entry_of xs k grant at

pub recorded_at : (entries : List Record) (k : ℕ) (entry : Record) → slice_get entries k ≡ Some entry → slice_get (recorded entries) k ≡ Some entry.grant
recorded_at entries k entry at =
    slice_get-map (λ (e : Record). e.grant) entries k ∙ ap (option_map (λ (e : Record). e.grant)) at

module _ (entries : List Record) (grants : List Grant) (rising : IsRising (recorded entries ++ grants)) (ranked point : ℕ)
    (below : (k : ℕ) (entry : Record) → slice_get entries k ≡ Some entry → k < point → rank entry.grant < ranked)
    (above : (k : ℕ) (entry : Record) → slice_get entries k ≡ Some entry → point ≤ k → ranked ≤ rank entry.grant) where
  under : (slot : ℕ) (grant : Grant) → slot < length entries → slice_get (recorded entries ++ grants) slot ≡ Some grant → slot < point → rank grant < ranked
  under slot grant within at less =
      let found = entry_of entries slot grant (get_first (recorded entries) grants slot grant (omega (arith, within, length-recorded entries)) at) in
      let low = below slot found.0 found.1 less in
      let same : rank found.0.grant ≡ rank grant = ap rank found.2 in
      omega (arith, low, same)

  -- where one of the records isn't below the place, the first such is of its grant
  pub slot_among : point < length entries → (slot : ℕ) (grant : Grant) → slice_get (recorded entries ++ grants) slot ≡ Some grant → rank grant ≡ ranked → point ≡ slot
  slot_among within slot grant at is =
      let first : Record = get_or entries point (unended grant) in
      let there : slice_get entries point ≡ Some first = slice_get-get_or entries point (unended grant) within in
      let high = above point first there (omega arith) in
      let whole : slice_get (recorded entries ++ grants) point ≡ Some first.grant = get_more (recorded entries) grants point first.grant (recorded_at entries point first there) in
      elim (cases_lt point slot) [
        | inl less ↦
            let rise = rise_grants (recorded entries ++ grants) rising point slot first.grant grant whole at less in
            absurd (omega (arith, high, rise, is))
        | inr more ↦
            elim (cases_lt slot point) [
              | inl less ↦ let low = under slot grant (omega (arith, less, within)) at less in absurd (omega (arith, low, is))
              | inr least ↦ omega arith
            ]
      ]

  -- else it is that of a later grant
  pub slot_after : length entries ≤ point → (last : ℕ) → ((index : ℕ) (grant : Grant) → slice_get grants index ≡ Some grant → rank grant ≡ ranked → last ≡ index)
      → (slot : ℕ) (grant : Grant) → slice_get (recorded entries ++ grants) slot ≡ Some grant → rank grant ≡ ranked → length entries + last ≡ slot
  slot_after past last last_is slot grant at is =
      elim (cases_lt slot (length entries)) [
        | inl less ↦ let low = under slot grant less at (omega (arith, less, past)) in absurd (omega (arith, low, is))
        | inr more ↦
            let rest = get_last (recorded entries) grants slot grant (omega (arith, more, length-recorded entries)) at in
            let same = last_is rest.0 grant rest.2 is in
            omega (arith, same, rest.1, length-recorded entries)
      ]
