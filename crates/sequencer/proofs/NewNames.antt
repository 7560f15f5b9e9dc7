-- Names that are entered last.
use Rattle.std.proofs.Common.{◌≡◌, ℕ, true, false, List, [], ◌∷◌, ◌++◌, refl}
use Rattle.std.specs.Prelude.{bytes_eq}
use Rattle.std.specs.List.{list_any}
use Rattle.std.proofs.Math.Bool.{or-false, or-true}
use Rattle.std.proofs.lemmas.List.Folds.{list_any-append}
use Rattle.std.proofs.lemmas.Slice.Eq.{bytes_eq-Decides}
use Rattle.model_base.proofs.Replay.{by_cases}
use Rattle.sequencer.specs.Names.{is_known, number_of, with_name}

-- the last of the names is known
last_known : (names : List (List ℕ)) (name : List ℕ) → is_known (names ++ name ∷ []) name ≡ true
last_known names name =
    rw (list_any-append (bytes_eq name) names (name ∷ []), (bytes_eq-Decides name name).1 refl, or-true (list_any (bytes_eq name) names)) refl

-- and another name is known as without it
pub known_behind : (names : List (List ℕ)) (first second : List ℕ) → bytes_eq second first ≡ false → is_known (names ++ first ∷ []) second ≡ is_known names second
known_behind names first second e =
    rw (list_any-append (bytes_eq second) names (first ∷ []), e, or-false (list_any (bytes_eq second) names)) refl

-- a name that was entered is known, and has the number that it had
pub known_once_named : (names : List (List ℕ)) (name : List ℕ) → is_known (with_name names name) name ≡ true
known_once_named names name = by_cases (is_known names name) (λ known. rw known known) (λ new. rw new (last_known names name))

number_last : (names : List (List ℕ)) (name : List ℕ) → number_of (names ++ name ∷ []) name ≡ number_of names name
number_last [] name = rw ((bytes_eq-Decides name name).1 refl) refl
number_last (x ∷ names) name = rw (number_last names name) refl

pub known_number_stays : (names : List (List ℕ)) (name : List ℕ) → number_of (with_name names name) name ≡ number_of names name
known_number_stays names name = by_cases (is_known names name) (λ known. rw known refl) (λ new. rw new (number_last names name))
