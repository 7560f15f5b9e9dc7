-- What is among the elements of two lists.
use Rattle.std.proofs.Common.{◌≡◌, ◌⊎◌, List, [], ◌∷◌, ◌++◌, inl, inr, ⊎_elim}
use Rattle.words.specs.Views.{In}

module _ {A : Type 0} where
  pub in_cases : (x : A) (l m : List A) → In x (l ++ m) → In x l ⊎ In x m
  in_cases x [] m has = inr has
  in_cases x (y ∷ l) m has =
      ⊎_elim (λ is. inl (inl is)) (λ more. ⊎_elim (λ front. inl (inr front)) (λ back. inr back) (in_cases x l m more)) has

  pub in_front : (x : A) (l m : List A) → In x l → In x (l ++ m)
  in_front x [] m has = absurd has
  in_front x (y ∷ l) m has = ⊎_elim (λ is. inl is) (λ more. inr (in_front x l m more)) has

  pub in_back : (x : A) (l m : List A) → In x m → In x (l ++ m)
  in_back x [] m has = has
  in_back x (y ∷ l) m has = inr (in_back x l m has)

  pub in_one : (x y : A) → In x (y ∷ []) → x ≡ y
  in_one x y has = ⊎_elim (λ is. is) (λ none. absurd none) has
