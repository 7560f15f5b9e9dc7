-- The pieces of a word, taken one after another.
use Rattle.std.proofs.Common.{◌≡◌, ℕ, zero, suc, ◌+◌, ◌<◌, ◌≤◌, ◌||◌, Bool, true, false, List, [], ◌∷◌, ◌++◌, length, take, drop, None, refl, ap, sym, ◌∙◌, subst, arith}
use Rattle.std.specs.List.{list_any}
use Rattle.std.proofs.lemmas.List.Folds.{list_any-append}
use Rattle.line_words.specs.Faults.{or_else}
use Rattle.log_text.specs.Fault.{grantee_fault, grantees_fault}

taken_next : (all : List (List ℕ)) (i : ℕ) (w : List ℕ) (left : List (List ℕ)) → drop i all ≡ w ∷ left
    → (left ≡ drop (suc i) all) × (take (suc i) all ≡ take i all ++ w ∷ []) × (i < length all)
taken_next [] zero w left e = absurd cc
taken_next [] (suc i) w left e = absurd cc
taken_next (x ∷ xs) zero w left e =
    let head : x ≡ w = cc in
    let rest : xs ≡ left = ap (drop 1) e in
    (sym rest, ap (λ v. v ∷ []) head, omega arith)
taken_next (x ∷ xs) (suc i) w left e =
    let p = taken_next xs i w left e in
    (p.0, ap (λ vs. x ∷ vs) p.1, omega (arith, p.2))

-- one more is taken
pub taken_more : (all : List (List ℕ)) (i : ℕ) (w : List ℕ) (left : List (List ℕ)) → drop i all ≡ w ∷ left
    → (left ≡ drop (i + 1) all) × (take (i + 1) all ≡ take i all ++ w ∷ []) × (i < length all)
taken_more all i w left e =
    let next : suc i ≡ i + 1 = omega arith in
    subst (λ n. (left ≡ drop n all) × (take n all ≡ take i all ++ w ∷ []) × (i < length all)) next (taken_next all i w left e)

-- where none is left, all were taken
pub taken_all : (all : List (List ℕ)) (i n : ℕ) → drop i all ≡ [] → i ≤ n → take n all ≡ take i all
taken_all [] zero zero e low = refl
taken_all [] zero (suc n) e low = refl
taken_all [] (suc i) zero e low = refl
taken_all [] (suc i) (suc n) e low = refl
taken_all (x ∷ xs) zero n e low = absurd cc
taken_all (x ∷ xs) (suc i) zero e low = absurd (omega arith)
taken_all (x ∷ xs) (suc i) (suc n) e low = ap (λ vs. x ∷ vs) (taken_all xs i n e (omega arith))

or_last : (a b : Bool) → b ≡ true → (a || b) ≡ true
or_last true b e = refl
or_last false b e = e

-- one that passes among the first
pub found_first : (p : List ℕ → Bool) (all : List (List ℕ)) (i n : ℕ) (w : List ℕ) (left : List (List ℕ)) → drop i all ≡ w ∷ left → i < n → p w ≡ true → list_any p (take n all) ≡ true
found_first p [] zero n w left e low is = absurd cc
found_first p [] (suc i) n w left e low is = absurd cc
found_first p (x ∷ xs) i zero w left e low is = absurd (omega arith)
found_first p (x ∷ xs) zero (suc n) w left e low is =
    let head : x ≡ w = cc in
    ap (λ b. b || list_any p (take n xs)) (ap p head ∙ is)
found_first p (x ∷ xs) (suc i) (suc n) w left e low is = or_last (p x) (list_any p (take n xs)) (found_first p xs i n w left e (omega arith) is)

-- one more that doesn't pass
pub none_more : (p : List ℕ → Bool) (all more : List (List ℕ)) (w : List ℕ) → list_any p all ≡ false → p w ≡ false → more ≡ all ++ w ∷ [] → list_any p more ≡ false
none_more p all more w none other is =
    ap (list_any p) is ∙ list_any-append p all (w ∷ []) ∙ ap (λ b. b || (p w || false)) none ∙ ap (λ b. b || false) other

-- the grantee's word has no fault after those before it
pub fits_more : (earlier more left : List (List ℕ)) (w : List ℕ) → grantee_fault earlier w ≡ None → more ≡ earlier ++ w ∷ [] → grantees_fault earlier (w ∷ left) ≡ grantees_fault more left
fits_more earlier more left w none is =
    ap (λ f. or_else f (grantees_fault (earlier ++ w ∷ []) left)) none ∙ ap (λ ws. grantees_fault ws left) (sym is)
