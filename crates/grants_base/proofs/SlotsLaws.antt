-- The first slot at or above another, among slots that rise.
use Rattle.std.proofs.Common.{◌≡◌, ℕ, zero, suc, ◌<◌, ◌≤◌, true, false, List, [], ◌∷◌, Option, Some, None, ltb, refl, arith, eq-eqb}
use Rattle.std.specs.Prelude.{◌==◌, All, slice_get}
use Rattle.std.specs.List.Sorted.{IsNonDecreasingBy, IsPartitionPoint}
use Rattle.std.proofs.lemmas.Bool.{ne_eqb, or_right}
use Rattle.std.proofs.lemmas.List.Elements.{All-head, All-tail}
use Rattle.grants_base.specs.Index.{IsFirst}
use Rattle.grants_base.specs.Index.{is_one_of}
use Rattle.grants_base.specs.Sides.{AreAscending}
use Rattle.grants_base.proofs.Lookups.{less_false, less_true}

pub slots_in_order : (slots : List ℕ) → AreAscending slots → IsNonDecreasingBy (λ slot. slot) slots
slots_in_order [] rise zero j d le less = absurd (omega arith)
slots_in_order [] rise (suc i) j d le less = absurd (omega arith)
slots_in_order (x ∷ xs) rise zero zero d le less = omega arith
slots_in_order (x ∷ xs) rise zero (suc j) d le less = let above = rise.0 j d (omega arith) in omega arith
slots_in_order (x ∷ xs) rise (suc i) zero d le less = absurd (omega arith)
slots_in_order (x ∷ xs) rise (suc i) (suc j) d le less = slots_in_order xs rise.1 i j d (omega arith) (omega arith)

-- below and at the first of slots that rise none is found
pub none_under : (slots : List ℕ) (low k : ℕ) → All (λ later. low < later) slots → k ≤ low → is_one_of slots k ≡ false
none_under [] low k above le = refl
none_under (x ∷ xs) low k above le =
    let first : low < x = All-head (λ later. low < later) x xs above in
    let apart : (x == k) ≡ false = ne_eqb x k (λ same. omega arith) in
    rw apart (none_under xs low k (All-tail (λ later. low < later) x xs above) le)

-- the first slot, where it isn't below
pub first_at : (x : ℕ) (xs : List ℕ) (from : ℕ) → All (λ later. x < later) xs → from ≤ x → IsFirst (is_one_of (x ∷ xs)) from (Some x)
first_at x xs from above le = (le, rw (eq-eqb x x refl) refl, λ k low less. let apart : (x == k) ≡ false = ne_eqb x k (λ same. omega arith) in rw apart (none_under xs x k above (omega arith)))

-- or one of the later
pub first_later : (x : ℕ) (xs : List ℕ) (from : ℕ) (found : Option ℕ) → x < from → IsFirst (is_one_of xs) from found → IsFirst (is_one_of (x ∷ xs)) from found
first_later x xs from None less is = λ k low. let apart : (x == k) ≡ false = ne_eqb x k (λ same. omega arith) in rw apart (is k low)
first_later x xs from (Some i) less is =
    (is.0, or_right (x == i) (is_one_of xs i) is.1, λ k low high. let apart : (x == k) ≡ false = ne_eqb x k (λ same. omega arith) in rw apart (is.2 k low high))

pub first_of : (from : ℕ) (xs : List ℕ) (i : ℕ) → AreAscending xs → IsPartitionPoint (λ y. ltb y from ≡ true) (λ y. ltb y from ≡ false) xs i → IsFirst (is_one_of xs) from (slice_get xs i)
first_of from [] i rise point = λ k low. refl
first_of from (x ∷ xs) zero rise point = first_at x xs from rise.0 (less_false x from (point.1 0 x (omega arith) (omega arith)))
first_of from (x ∷ xs) (suc i) rise point =
    first_later x xs from (slice_get xs i) (less_true x from (point.0 0 x (omega arith) (omega arith)))
    (first_of from xs i rise.1 ((λ k d low less. point.0 (suc k) d (omega arith) (omega arith)), (λ k d low less. point.1 (suc k) d (omega arith) (omega arith))))
