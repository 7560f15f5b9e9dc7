-- Items of lists by their indices.
use Rattle.std.proofs.Common.{◌≡◌, ◌<◌, ◌≤◌, ◌+◌, ◌∷◌, ◌++◌, ℕ, zero, suc, List, [], Some, None, Result, Ok, Err, add-one, drop, drop-cons, get_or, length, length-append, sym, ◌∙◌, ap, arith}
use Rattle.std.specs.Prelude.{slice_get}
use Rattle.explain.specs.Indexed.{IsItemAt}

get_here : {X : Type 0} (xs ys : List X) (index : ℕ) (x : X) → slice_get xs index ≡ Some x → slice_get (xs ++ ys) index ≡ Some x
get_here [] ys index x is = absurd (cc)
get_here (first ∷ xs) ys zero x is = is
get_here (first ∷ xs) ys (suc index) x is = get_here xs ys index x is

get_behind : {X : Type 0} (xs ys : List X) (left : ℕ) → slice_get (xs ++ ys) (length xs + left) ≡ slice_get ys left
get_behind [] ys left = let same : 0 + left ≡ left = omega arith in ap (slice_get ys) same
get_behind (first ∷ xs) ys left = let more : suc (length xs) + left ≡ suc (length xs + left) = omega arith in rw more (get_behind xs ys left)

-- what is in the first list is in both
pub at_here : {X : Type 0} (xs ys : List X) (index : ℕ) (x : X) → IsItemAt xs index (Ok x) → IsItemAt (xs ++ ys) index (Ok x)
at_here xs ys index x is = get_here xs ys index x is

-- what lies past the first list is in the second, or past that too
pub at_behind : {X : Type 0} (xs ys : List X) (index left : ℕ) (result : Result X ℕ) → IsItemAt xs index (Err left) → IsItemAt ys left result → IsItemAt (xs ++ ys) index result
at_behind xs ys index left (Ok x) past is = ap (slice_get (xs ++ ys)) past ∙ get_behind xs ys left ∙ is
at_behind xs ys index left (Err more) past is = omega (arith, past, is, length-append xs ys)

-- where no item has an index, the list ends before it
pub ends_before : {X : Type 0} (xs : List X) (index : ℕ) → slice_get xs index ≡ None → length xs ≤ index
ends_before [] index none = omega arith
ends_before (x ∷ xs) zero none = absurd (cc)
ends_before (x ∷ xs) (suc index) none = let rest = ends_before xs index none in omega (arith, rest)

-- an item, and those after it
pub from_item : {X : Type 0} (xs : List X) (index : ℕ) (x : X) → slice_get xs index ≡ Some x → drop index xs ≡ x ∷ drop (index + 1) xs
from_item [] index x is = absurd (cc)
from_item (first ∷ xs) zero x is = let same : first ≡ x = cc in ap (λ y. y ∷ xs) same
from_item (first ∷ xs) (suc index) x is = let more : suc index + 1 ≡ suc (index + 1) = omega arith in rw more (from_item xs index x is)

-- the item that is read at an index, and those after it
pub from_read : {X : Type 0} (xs : List X) (i : ℕ) (x : X) → i < length xs → x ≡ get_or xs i x → drop i xs ≡ x ∷ drop (i + 1) xs
from_read xs i x within is = rw (add-one i) (drop-cons xs i x within ∙ ap (λ first. first ∷ drop (suc i) xs) (sym is))
