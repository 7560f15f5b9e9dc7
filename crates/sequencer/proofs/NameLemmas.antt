-- Names that are looked up among the keys of a set.
use Rattle.std.proofs.Common.{◌≡◌, ℕ, ◌<◌, Bool, true, false, cond, List, [], ◌∷◌, ◌++◌, length, map, take, slice_get, Some, refl, ap, sym, ◌∙◌, subst, true≢false, arith}
use Rattle.std.specs.Prelude.{bytes_eq, position}
use Rattle.std.specs.List.{list_any, position_or_len, IsDistinct}
use Rattle.std.proofs.Math.ListN.{get_or}
use Rattle.std.proofs.lemmas.Bool.{lt-ltb}
use Rattle.std.proofs.lemmas.List.Folds.{list_any_none}
use Rattle.std.proofs.lemmas.List.Sums.{fails_before_first, position_or_len_is}
use Rattle.std.proofs.lemmas.Map.Keys.{any_passes_from_place, apart_from_distinct}
use Rattle.std.proofs.lemmas.Option.{get_or_from_slice_get, slice_get_within}
use Rattle.std.proofs.lemmas.Slice.Eq.{bytes_eq-Decides}
use Rattle.std.proofs.lemmas.List.{get_or-take, length-map, length-take, map-append}
use Rattle.model_base.proofs.Replay.{by_cases}
use Rattle.sequencer.specs.Names.{is_known, known_number, number_of, with_name}

-- names that differ, whichever is first
differ_back : (first second : List ℕ) → bytes_eq first second ≡ false → bytes_eq second first ≡ false
differ_back first second differ =
    by_cases (bytes_eq second first)
    (λ is. absurd (true≢false (sym ((bytes_eq-Decides first second).1 (sym ((bytes_eq-Decides second first).0 is))) ∙ differ)))
    (λ is. is)

-- a test fails before the place at which it passes first
none_before : (p : List ℕ → Bool) (xs : List (List ℕ)) → list_any p (take (position_or_len p xs) xs) ≡ false
none_before p xs =
    list_any_none p (take (position_or_len p xs) xs)
    (λ k d low. rw (get_or-take (position_or_len p xs) xs k d (omega (arith, low, length-take (position_or_len p xs) xs)))
    (fails_before_first p xs k d (omega (arith, low, length-take (position_or_len p xs) xs))))

module _ {X : Type 0} (view : X → List ℕ) where
  pub number_of-map : (name : List ℕ) (xs : List X) → number_of (map view xs) name ≡ position_or_len (λ x. bytes_eq name (view x)) xs
  number_of-map name [] = refl
  number_of-map name (x ∷ xs) = rw (number_of-map name xs) refl

  pub is_known-map : (name : List ℕ) (xs : List X) → is_known (map view xs) name ≡ list_any (λ x. bytes_eq name (view x)) xs
  is_known-map name [] = refl
  is_known-map name (x ∷ xs) = rw (is_known-map name xs) refl

  pub known_number-map : (name : List ℕ) (xs : List X) → known_number (map view xs) name ≡ position (λ x. bytes_eq name (view x)) xs
  known_number-map name xs = rw (number_of-map name xs, length-map xs view) refl

  pub with_name-map : (k : X) (xs : List X) → map view (cond (list_any (λ x. bytes_eq (view k) (view x)) xs) xs (xs ++ k ∷ [])) ≡ with_name (map view xs) (view k)
  with_name-map k xs =
      rw (is_known-map (view k) xs)
      (by_cases (list_any (λ x. bytes_eq (view k) (view x)) xs) (λ known. rw known refl) (λ new. rw new (map-append view xs (k ∷ []))))

  -- where the names are distinct, each has the number at which it is
  own_place : (keys : List X) (i : ℕ) (key : X) (name : List ℕ) → IsDistinct (λ x y. bytes_eq (view x) (view y)) keys
      → slice_get keys i ≡ Some key → view key ≡ name → position_or_len (λ x. bytes_eq name (view x)) keys ≡ i
  own_place keys i key name distinct at same =
      position_or_len_is (λ x. bytes_eq name (view x)) keys i key (omega (arith, within)) others
      (λ _. (bytes_eq-Decides name (view (get_or keys i key))).1 (sym (ap view own ∙ same)))
    where
      within : i < length keys
      within = slice_get_within keys i key at

      own : get_or keys i key ≡ key
      own = get_or_from_slice_get keys i key key at

      others : (k : ℕ) → k < i → bytes_eq name (view (get_or keys k key)) ≡ false
      others k low =
          subst (λ (n : List ℕ). bytes_eq n (view (get_or keys k key)) ≡ false) (ap view own ∙ same)
          (differ_back (view (get_or keys k key)) (view (get_or keys i key)) (apart_from_distinct _ keys k i key distinct low within))

  pub own_number : (keys : List X) (i : ℕ) (key : X) (name : List ℕ) → IsDistinct (λ x y. bytes_eq (view x) (view y)) keys
      → slice_get keys i ≡ Some key → view key ≡ name → known_number (map view keys) name ≡ Some i
  own_number keys i key name distinct at same =
      known_number-map name keys
      ∙ rw (own_place keys i key name distinct at same, lt-ltb i (length keys) (slice_get_within keys i key at)) refl

  pub own_known : (keys : List X) (i : ℕ) (key : X) (name : List ℕ) → slice_get keys i ≡ Some key → view key ≡ name → is_known (map view keys) name ≡ true
  own_known keys i key name at same =
      is_known-map name keys ∙ any_passes_from_place (λ x. bytes_eq name (view x)) keys i key at ((bytes_eq-Decides name (view key)).1 (sym same))

  -- so none before it is of its name
  pub own_new : (keys : List X) (i : ℕ) (key : X) (name : List ℕ) → IsDistinct (λ x y. bytes_eq (view x) (view y)) keys
      → slice_get keys i ≡ Some key → view key ≡ name → is_known (take i (map view keys)) name ≡ false
  own_new keys i key name distinct at same =
      let first : number_of (map view keys) name ≡ i = number_of-map name keys ∙ own_place keys i key name distinct at same in
      ap (λ (n : ℕ). is_known (take n (map view keys)) name) (sym first) ∙ none_before (bytes_eq name) (map view keys)
