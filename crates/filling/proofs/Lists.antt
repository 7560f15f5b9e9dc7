-- Members of lists by their places, and lists that rise.
use Rattle.std.proofs.Common.{◌≡◌, ℕ, zero, suc, ◌+◌, ◌<◌, ◌≤◌, List, [], ◌∷◌, ◌++◌, length, get_or, true, ◌==◌, refl, sym, ap, ◌∙◌, subst, arith, inl, inr, ⊎_elim}
use Rattle.std.specs.List.{list_any}
use Rattle.std.specs.List.Sorted.{IsStrictlyIncreasing}
use Rattle.std.proofs.lemmas.Bool.{cases_lt, eq-eqb, eqb-true, true≢false}
use Rattle.std.proofs.lemmas.List.{get_or_append_left, get_or_push, length_push}
use Rattle.model_base.proofs.Replay.{by_cases}
use Rattle.words.specs.Views.{In}

-- who is among the elements stands somewhere, and who stands somewhere is among them
pub in-at : (x : ℕ) (xs : List ℕ) → In x xs → (k : ℕ) × (k < length xs) × (get_or xs k 0 ≡ x)
in-at x [] has = absurd has
in-at x (y ∷ ys) has =
    ⊎_elim
    (λ is. (0, omega arith, sym is))
    (λ more. let at = in-at x ys more in (suc at.0, (let low = at.1 in omega arith), at.2))
    has

pub at-in : (xs : List ℕ) (k : ℕ) → k < length xs → In (get_or xs k 0) xs
at-in [] k within = absurd (omega arith)
at-in (y ∷ ys) zero within = inl refl
at-in (y ∷ ys) (suc k) within = inr (at-in ys k (omega arith))

pub in-front : (x : ℕ) (l m : List ℕ) → In x l → In x (l ++ m)
in-front x [] m has = absurd has
in-front x (y ∷ l) m has = ⊎_elim (λ is. inl is) (λ more. inr (in-front x l m more)) has

pub in-back : (x : ℕ) (l : List ℕ) → In x (l ++ x ∷ [])
in-back x [] = inl refl
in-back x (y ∷ l) = inr (in-back x l)

-- each number is below all later ones
pub rises-far : (xs : List ℕ) → IsStrictlyIncreasing xs → (i j : ℕ) → i ≤ j → j < length xs → get_or xs i 0 ≤ get_or xs j 0
rises-far xs rise i zero low within = let same : i ≡ 0 = omega arith in subst (λ k. get_or xs i 0 ≤ get_or xs k 0) same (omega arith)
rises-far xs rise i (suc j) low within =
    elim (cases_lt i (suc j)) [
      | inl less ↦
          let before = rises-far xs rise i j (omega arith) (omega arith) in
          let step = rise j (omega arith) in
          let next : get_or xs j 0 < get_or xs (suc j) 0 = subst (λ k. get_or xs j 0 < get_or xs k 0) (let is : j + 1 ≡ suc j = omega arith in is) step in
          omega arith
      | inr more ↦ (let same : i ≡ suc j = omega arith in subst (λ k. get_or xs i 0 ≤ get_or xs k 0) same (omega arith))
    ]

-- a greater number after a list that rises
pub rises-more : (xs : List ℕ) (y : ℕ) → IsStrictlyIncreasing xs → ((k : ℕ) → k < length xs → get_or xs k 0 < y) → IsStrictlyIncreasing (xs ++ y ∷ [])
rises-more xs y rise below k within =
    let wide = length_push xs y in
    elim (cases_lt (k + 1) (length xs)) [
      | inl less ↦
          let here = get_or_append_left xs (y ∷ []) 0 k (omega arith) in
          let next = get_or_append_left xs (y ∷ []) 0 (k + 1) less in
          let step = rise k less in
          omega arith
      | inr more ↦
          let last : length xs ≡ k + 1 = omega arith in
          let here = get_or_append_left xs (y ∷ []) 0 k (omega arith) in
          let next = get_or_push xs y 0 (k + 1) last in
          let low = below k (omega arith) in
          omega arith
    ]

-- all of them lie above
abbrev pub Above : ℕ → List ℕ → Type 0
Above p [] = Unit {0}
Above p (q ∷ qs) = (p < q) × Above p qs

-- each lies below all that are after it
abbrev pub Rises : List ℕ → Type 0
Rises [] = Unit {0}
Rises (p ∷ ps) = Above p ps × Rises ps

above-lower : (p q : ℕ) (qs : List ℕ) → p < q → Above q qs → Above p qs
above-lower p q [] low above = tt
above-lower p q (r ∷ rs) low above = (let high = above.0 in omega arith, above-lower p q rs low above.1)

pub rises-by : (ps : List ℕ) → IsStrictlyIncreasing ps → Rises ps
rises-by [] rise = tt
rises-by (p ∷ []) rise = (tt, tt)
rises-by (p ∷ q ∷ qs) rise =
    let tail : IsStrictlyIncreasing (q ∷ qs) =
    λ k within. (let step = rise (suc k) (omega arith) in subst (λ n. get_or (q ∷ qs) k 0 < get_or (p ∷ q ∷ qs) n 0) (let is : suc k + 1 ≡ suc (k + 1) = omega arith in is) step) in
    let rest = rises-by (q ∷ qs) tail in
    let first : p < q = rise 0 (omega arith) in
    ((first, above-lower p q qs first rest.0), rest)

-- what lies above all elements lies above each
pub above-at : (p q : ℕ) (qs : List ℕ) → Above p qs → In q qs → p < q
above-at p q [] above has = absurd has
above-at p q (r ∷ rs) above has = ⊎_elim (λ is. let low = above.0 in omega arith) (λ more. above-at p q rs above.1 more) has

-- what a test for an element says
pub any-in : (p : ℕ) (ps : List ℕ) → list_any (λ one. one == p) ps ≡ true → In p ps
any-in p [] any = absurd (true≢false (sym any))
any-in p (q ∷ qs) any =
    by_cases (q == p)
    (λ is. inl (sym (eqb-true q p is)))
    (λ other. inr (any-in p qs (rw other at any)))

pub in-any : (p : ℕ) (ps : List ℕ) → In p ps → list_any (λ one. one == p) ps ≡ true
in-any p [] has = absurd has
in-any p (q ∷ qs) has =
    by_cases (q == p)
    (λ is. rw is refl)
    (λ other. rw other (⊎_elim (λ same. absurd (true≢false (sym (eq-eqb q p (sym same)) ∙ other))) (λ more. in-any p qs more) has))

-- two lists that rise and have the same elements are one
pub same-members : (xs ys : List ℕ) → Rises xs → Rises ys → ((x : ℕ) → In x xs → In x ys) → ((x : ℕ) → In x ys → In x xs) → xs ≡ ys
same-members [] [] up above there back = refl
same-members [] (y ∷ ys) up above there back = absurd (back y (inl refl))
same-members (x ∷ xs) [] up above there back = absurd (there x (inl refl))
same-members (x ∷ xs) (y ∷ ys) up above there back =
    let same : x ≡ y
    = ⊎_elim
    (λ is. is)
    (λ more. ⊎_elim (λ is. sym is) (λ less. absurd (let low = above-at y x ys above.0 more in let high = above-at x y xs up.0 less in omega arith)) (back y (inl refl)))
    (there x (inl refl)) in
    let rest = same-members xs ys up.1 above.1
    (λ z has. ⊎_elim (λ is. absurd (let low = above-at x z xs up.0 has in omega arith)) (λ more. more) (there z (inr has)))
    (λ z has. ⊎_elim (λ is. absurd (let low = above-at y z ys above.0 has in omega arith)) (λ more. more) (back z (inr has))) in
    ap (λ head. head ∷ xs) same ∙ ap (λ tail. y ∷ tail) rest
