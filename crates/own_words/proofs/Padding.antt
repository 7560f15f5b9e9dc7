-- Words appended to the others, and all words taken away, keep the padding.
use Rattle.std.proofs.Common.{◌≡◌, ℕ, suc, ◌+◌, ◌-◌, ◌<◌, ◌≤◌, List, [], ◌∷◌, ◌++◌, length, take, drop, set, get_or, refl, sym, ◌∙◌, ap, arith, append_assoc, length-append, length-drop, length-set, ext_get_or}
use Rattle.std.specs.Prelude.{replicate}
use Rattle.std.proofs.Math.Seq.{drop-append_seam, set-append_seam, take-append_seam}
use Rattle.std.proofs.lemmas.List.{get_or-replicate, length-replicate, length-take-le, replicate-append-replicate}
use Rattle.own_words.specs.Room.{IsRoomPadded}

-- what is after some numbers that are in front of the array
pub take_front : (n : ℕ) (front rest : List ℕ) → length front ≡ n → take n (front ++ rest) ≡ front
take_front n front rest long = ap (λ k. take k (front ++ rest)) (sym long) ∙ take-append_seam front rest

module _ (n : ℕ) (xs : List ℕ) (within : n ≤ 156) (whole : length xs ≡ 156) (zeros : xs ≡ take n xs ++ replicate (156 - n) 0) where
  front-length : length (take n xs) ≡ n
  front-length = length-take-le n xs (omega arith)

  -- one more word
  module _ (x : ℕ) (below : n < 156) where
    abbrev rest : List ℕ
    rest = replicate (156 - (n + 1)) 0

    split : xs ≡ take n xs ++ 0 ∷ rest
    split = let e : 156 - n ≡ suc (156 - (n + 1)) = omega arith in zeros ∙ rw e refl

    set_split : set xs n x ≡ take n xs ++ x ∷ rest
    set_split =
        ap (λ ys. set ys n x) split ∙ ap (λ k. set (take n xs ++ 0 ∷ rest) k x) (sym front-length) ∙ set-append_seam (take n xs) 0 rest x

    pub take_more : take (n + 1) (set xs n x) ≡ take n xs ++ x ∷ []
    take_more =
        let long : length (take n xs ++ x ∷ []) ≡ n + 1 = length-append (take n xs) (x ∷ []) ∙ rw front-length refl in
        ap (take (n + 1)) (set_split ∙ sym (append_assoc (take n xs) (x ∷ []) rest)) ∙ take_front (n + 1) (take n xs ++ x ∷ []) rest long

    pub padded_more : IsRoomPadded (record { len = n + 1; words = set xs n x })
    padded_more = record {
      within = omega arith;
      whole = length-set xs n x ∙ whole;
      zeros = set_split ∙ sym (append_assoc (take n xs) (x ∷ []) rest) ∙ ap (λ ys. ys ++ rest) (sym take_more);
    }

  -- no word, where this many zeros are in the place of the words
  module _ (front : List ℕ) (long : length front ≡ n) (each : (k : ℕ) → k < n → get_or front k 0 ≡ 0) where
    front_zeros : front ≡ replicate n 0
    front_zeros = ext_get_or 0 front (replicate n 0) (long ∙ sym (length-replicate {A = ℕ} n 0))
        λ k low. let below : k < n = omega arith in each k below ∙ sym (get_or-replicate n k 0 0 below)

    rest_zeros : drop n xs ≡ replicate (156 - n) 0
    rest_zeros =
        ap (drop n) zeros
        ∙ ap (λ k. drop k (take n xs ++ replicate (156 - n) 0)) (sym front-length)
        ∙ drop-append_seam (take n xs) (replicate (156 - n) 0)

    all_zeros : front ++ drop n xs ≡ replicate 156 0
    all_zeros =
        let all : n + (156 - n) ≡ 156 = omega arith in
        rw (front_zeros, rest_zeros) (replicate-append-replicate n (156 - n) 0 ∙ ap (λ k. replicate k 0) all)

    pub padded_none : IsRoomPadded (record { len = 0; words = front ++ drop n xs })
    padded_none = record {
      within = omega arith;
      whole = length-append front (drop n xs) ∙ omega (arith, length-drop n xs);
      zeros = all_zeros;
    }
