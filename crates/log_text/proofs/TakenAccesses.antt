-- One more access after those that were taken.
use Rattle.std.proofs.Common.{◌≡◌, ◌<◌, ◌≤◌, ℕ, ◌+◌, false, List, [], ◌∷◌, ◌++◌, None, map, refl, ap, sym, ◌∙◌, subst, arith, append_assoc}
use Rattle.std.specs.List.{AllByRecursion}
use Rattle.std.proofs.lemmas.List.{map-append}
use Rattle.std.proofs.lemmas.Bool.{lt-ltb}
use Rattle.line_words.specs.Access.{IsAccess, access_fault, access_word}
use Rattle.log_text.specs.Fault.{OfAccess, OfNext, fault_from, is_bar}
use Rattle.line_words.specs.declared.access.RawAccess.{RawAccess}

-- its word too
pub one_more : (all before left : List (List ℕ)) (word : List ℕ) (found more : List RawAccess) (a : RawAccess) → all ≡ map access_word found ++ before
    → before ≡ word ∷ left → word ≡ access_word a → more ≡ found ++ a ∷ [] → all ≡ map access_word more ++ left
one_more all before left word found more a same next spelled is =
    let front : List (List ℕ) = map access_word found in
    let joined : map access_word more ≡ front ++ access_word a ∷ [] = ap (map access_word) is ∙ map-append access_word found (a ∷ []) in
    same ∙ ap (λ (w : List (List ℕ)). front ++ w) (next ∙ ap (λ (w : List ℕ). w ∷ left) spelled)
    ∙ sym (ap (λ (w : List (List ℕ)). w ++ left) joined ∙ append_assoc front (access_word a ∷ []) left)

-- and it is an access as the others are
pub each_more : (found more : List RawAccess) (a : RawAccess) → AllByRecursion IsAccess found → IsAccess a → more ≡ found ++ a ∷ [] → AllByRecursion IsAccess more
each_more found more a each here is = subst (AllByRecursion IsAccess) (sym is) (with_last found each)
  where
    with_last : (xs : List RawAccess) → AllByRecursion IsAccess xs → AllByRecursion IsAccess (xs ++ a ∷ [])
    with_last [] h = (here, tt)
    with_last (x ∷ xs) h = (h.0, with_last xs h.1)

-- there may be this many accesses
pub some_more : (len new : ℕ) → 1 ≤ len → new ≡ len + 1 → 1 ≤ new
some_more len new some one = omega arith

pub room_more : (len old new : ℕ) → old < 16 → old ≡ len → new ≡ len + 1 → new ≤ 16
room_more len old new few is one = omega arith

-- what is left has the fault of the whole
pub fits_more : (v : ℕ) (whole : List (List ℕ)) (before left : List (List ℕ)) (word : List ℕ) (len old new : ℕ)
    → fault_from (OfAccess ∷ OfNext v 1 ∷ []) whole ≡ fault_from (OfNext v len ∷ []) before → before ≡ word ∷ left → is_bar word ≡ false
    → old < 16 → old ≡ len → new ≡ len + 1 → access_fault word ≡ None
    → fault_from (OfAccess ∷ OfNext v 1 ∷ []) whole ≡ fault_from (OfNext v new ∷ []) left
fits_more v whole before left word len old new so next other few is one sound =
    let low : len < 16 = omega arith in
    let goes : fault_from (OfNext v len ∷ []) (word ∷ left) ≡ fault_from (OfNext v (len + 1) ∷ []) left = rw (other, lt-ltb len 16 low, sound) refl in
    so ∙ ap (fault_from (OfNext v len ∷ [])) next ∙ goes ∙ ap (λ (n : ℕ). fault_from (OfNext v n ∷ []) left) (sym one)
