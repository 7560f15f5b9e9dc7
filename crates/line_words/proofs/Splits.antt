-- The pieces of a text between bytes of one value, one after another.
use Rattle.std.proofs.Common.{◌≡◌, ℕ, ◌+◌, ◌-◌, ◌<◌, ◌≤◌, true, false, not, eqb, leb, ltb, MatchBool, inl, inr, List, [], ◌∷◌, length, take, drop, get_or, ap, refl, sym, ◌∙◌, arith}
use Rattle.std.specs.List.{position_or_len, before_first, after_first, slice_split}
use Rattle.std.proofs.lemmas.List.Splits.{slice_split_first, slice_split_none}
use Rattle.std.proofs.lemmas.List.Sums.{prefix_len_passes, prefix_len-le-length, position_or_len_is}
use Rattle.std.proofs.lemmas.List.{length-drop, get_or-drop, drop-drop}
use Rattle.std.proofs.Math.Seq.{take-length}
use Rattle.std.proofs.lemmas.Bool.{not-true, cases_lt, cond-true, cond-false, lt-leb, le-leb, le-ltb, lt-ltb}
use Rattle.line_words.specs.Words.{split_from}

-- where a search from an index on stops
pub place_is : (w : List ℕ) (v start i : ℕ) → start ≤ i → i ≤ length w → ((k : ℕ) → start + k < i → eqb (get_or w (start + k) 0) v ≡ false) → (i < length w → eqb (get_or w i 0) v ≡ true) →
    i ≡ start + position_or_len (λ b. eqb b v) (drop start w)
place_is w v start i behind within before is =
    let long : length (drop start w) ≡ length w - start = length-drop start w in
    let at : position_or_len (λ b. eqb b v) (drop start w) ≡ i - start =
    position_or_len_is (λ b. eqb b v) (drop start w) (i - start) 0 (omega arith)
    (λ k lt. ap (λ b. eqb b v) (get_or-drop start w k 0) ∙ before k (omega arith))
    (λ lt. let e : start + (i - start) ≡ i = omega arith in ap (λ b. eqb b v) (get_or-drop start w (i - start) 0 ∙ ap (λ j. get_or w j 0) e) ∙ is (omega arith)) in
    omega (arith, at)

module _ (v : ℕ) where
  piece_first : (rest piece others : List ℕ) → position_or_len (λ b. eqb b v) rest < length rest → piece ≡ before_first (λ b. eqb b v) rest → others ≡ after_first (λ b. eqb b v) rest
      → slice_split (λ b. eqb b v) rest ≡ piece ∷ slice_split (λ b. eqb b v) others
  piece_first rest piece others lt w o = rw (w, o) (slice_split_first (λ b. eqb b v) rest 0 lt)

  -- a text without such a byte is one piece
  piece_last : (rest : List ℕ) → position_or_len (λ b. eqb b v) rest ≡ length rest → slice_split (λ b. eqb b v) rest ≡ rest ∷ []
  piece_last rest e =
      slice_split_none (λ b. eqb b v) rest (λ k d lt. not-true _ (prefix_len_passes (λ b. not (eqb b v)) rest k d (omega arith)))

  none_left : (start : ℕ) (text : List ℕ) → length text < start → split_from v start text ≡ []
  none_left start text past = cond-false (leb start (length text)) (slice_split (λ b. eqb b v) (drop start text)) [] (lt-leb start (length text) past)

  some_left : (start : ℕ) (text : List ℕ) → start ≤ length text → split_from v start text ≡ slice_split (λ b. eqb b v) (drop start text)
  some_left start text within = cond-true (leb start (length text)) (slice_split (λ b. eqb b v) (drop start text)) [] (le-leb start (length text) within)

  no_piece : (start : ℕ) (text : List ℕ) (left : List (List ℕ)) → split_from v start text ≡ left → length text < start → left ≡ []
  no_piece start text left e past = sym e ∙ none_left start text past

  -- one piece, and the pieces after it
  pub next_piece : (text : List ℕ) (start end : ℕ) (left : List (List ℕ)) → split_from v start text ≡ left → start ≤ length text → end ≡ start + position_or_len (λ b. eqb b v) (drop start text) → end ≤ length text →
      left ≡ take (end - start) (drop start text) ∷ split_from v (end + 1) text
  next_piece text start end left view within e bound =
      let rest = drop start text in
      let long : length rest ≡ length text - start = length-drop start text in
      let size : end - start ≡ position_or_len (λ b. eqb b v) rest = omega (arith, e) in
      sym view ∙ some_left start text within ∙ elim (cases_lt end (length text)) [
        | inr last ↦
            piece_last rest (omega arith)
            ∙ ap (λ ws. rest ∷ ws) (sym (none_left (end + 1) text (omega arith)))
            ∙ ap (λ w. w ∷ split_from v (end + 1) text) (sym (take-length rest) ∙ ap (λ n. take n rest) (let f : length rest ≡ end - start = omega arith in f))
        | inl more ↦
            piece_first rest (take (end - start) rest) (drop (end + 1) text) (omega arith) (ap (λ n. take n rest) size)
            (let f : end + 1 ≡ start + (position_or_len (λ b. eqb b v) rest + 1) = omega (arith, e) in ap (λ n. drop n text) f ∙ sym (drop-drop (position_or_len (λ b. eqb b v) rest + 1) start text))
            ∙ ap (λ ws. take (end - start) rest ∷ ws) (sym (some_left (end + 1) text (omega arith)))
      ]

  -- up to the text's end there is one
  some_piece : (text : List ℕ) (start : ℕ) (left : List (List ℕ)) → split_from v start text ≡ left → start ≤ length text → left ≡ [] → ⊥
  some_piece text start left view within none =
      let place = position_or_len (λ b. eqb b v) (drop start text) in
      let bound : start + place ≤ length text = omega (arith, length-drop start text, prefix_len-le-length (λ b. not (eqb b v)) (drop start text)) in
      let some = next_piece text start (start + place) left view within refl bound in
      cc

  -- so none is left past the end alone
  pub is_past : (text : List ℕ) (start : ℕ) (left : List (List ℕ)) → split_from v start text ≡ left → MatchBool (ltb (length text) start) (left ≡ []) (left ≡ [] → ⊥)
  is_past text start left view = elim (cases_lt (length text) start) [
    | inl past ↦ rw (lt-ltb (length text) start past) (no_piece start text left view past)
    | inr within ↦ rw (le-ltb (length text) start within) (some_piece text start left view within)
  ]
