-- The parts of a list's word.
use Rattle.std.proofs.Common.{◌||◌, ◌≡◌, ℕ, ◌≤◌, true, false, not, eqb, List, [], ◌∷◌, length, refl, ap, sym, ◌∙◌, inl, inr, arith}
use Rattle.std.specs.List.{list_all, join_with_byte, AllByRecursion}
use Rattle.std.proofs.lemmas.List.Splits.{slice_split_at, slice_split_none, length-slice_split, join_with_byte-slice_split}
use Rattle.std.proofs.lemmas.List.Sums.{AllPass-from_list_all}
use Rattle.std.proofs.lemmas.Bool.{cases_Bool, cond-true, cond-false, eqb-true, not-true}
use Rattle.line_words.specs.Words.{comma_pieces}
use Rattle.log_text.specs.Versions.{has_lists, parts_of, MayHaveParts}

abbrev pub HasNoComma : List ℕ → Type 0
HasNoComma w = list_all (λ b. not (eqb b 44)) w ≡ true

-- a word without commas is one piece
pub one_piece : (w : List ℕ) → HasNoComma w → comma_pieces w ≡ w ∷ []
one_piece w h = slice_split_none (λ b. eqb b 44) w (λ k d low. not-true _ (AllPass-from_list_all (λ b. not (eqb b 44)) w h k d low))

-- words without commas, joined by commas and cut at them
pub pieces_of_join : (ws : List (List ℕ)) → 1 ≤ length ws → AllByRecursion HasNoComma ws → comma_pieces (join_with_byte 44 ws) ≡ ws
pieces_of_join [] some h = absurd (omega arith)
pieces_of_join (w ∷ []) some h = one_piece w h.0
pieces_of_join (w ∷ v ∷ ws) some h =
    slice_split_at (λ b. eqb b 44) w 44 (join_with_byte 44 (v ∷ ws)) (λ k d low. not-true _ (AllPass-from_list_all (λ b. not (eqb b 44)) w h.0 k d low)) refl
    ∙ ap (λ vs. w ∷ vs) (pieces_of_join (v ∷ ws) (omega arith) h.1)

-- where there are no lists, there is one part
one_part : (version parts : ℕ) → has_lists version ≡ false → MayHaveParts version parts → parts ≡ 1
one_part version parts none may = eqb-true parts 1 (sym (ap (λ b. b || eqb parts 1) none) ∙ may)

single : (ws : List (List ℕ)) → length ws ≡ 1 → join_with_byte 44 ws ∷ [] ≡ ws
single [] e = absurd (omega arith)
single (w ∷ []) e = refl
single (w ∷ v ∷ ws) e = absurd (omega arith)

-- the parts of words that were joined are these
pub parts_of_join : (version : ℕ) (ws : List (List ℕ)) → 1 ≤ length ws → MayHaveParts version (length ws) → AllByRecursion HasNoComma ws → parts_of version (join_with_byte 44 ws) ≡ ws
parts_of_join version ws some may h =
    let word = join_with_byte 44 ws in
    elim (cases_Bool (has_lists version)) [
      | inl lists ↦ cond-true (has_lists version) (comma_pieces word) (word ∷ []) lists ∙ pieces_of_join ws some h
      | inr none ↦ cond-false (has_lists version) (comma_pieces word) (word ∷ []) none ∙ single ws (one_part version (length ws) none may)
    ]

-- the parts of a word, joined, are the word
pub join_of_parts : (version : ℕ) (w : List ℕ) → join_with_byte 44 (parts_of version w) ≡ w
join_of_parts version w =
    elim (cases_Bool (has_lists version)) [
      | inl lists ↦ ap (join_with_byte 44) (cond-true (has_lists version) (comma_pieces w) (w ∷ []) lists) ∙ join_with_byte-slice_split 44 w
      | inr none ↦ ap (join_with_byte 44) (cond-false (has_lists version) (comma_pieces w) (w ∷ []) none)
    ]

pub some_piece : (w : List ℕ) → 1 ≤ length (comma_pieces w)
some_piece w = omega (arith, length-slice_split (λ b. eqb b 44) w)

-- a word has a part
pub some_part : (version : ℕ) (w : List ℕ) → 1 ≤ length (parts_of version w)
some_part version w =
    elim (cases_Bool (has_lists version)) [
      | inl lists ↦ omega (arith, ap length (cond-true (has_lists version) (comma_pieces w) (w ∷ []) lists), some_piece w)
      | inr none ↦ omega (arith, ap length (cond-false (has_lists version) (comma_pieces w) (w ∷ []) none))
    ]

-- and one alone where there are no lists
pub may_be_parts : (version : ℕ) (w : List ℕ) → MayHaveParts version (length (parts_of version w))
may_be_parts version w =
    elim (cases_Bool (has_lists version)) [
      | inl lists ↦ ap (λ b. b || eqb (length (parts_of version w)) 1) lists
      | inr none ↦ ap (λ b. b || eqb (length (parts_of version w)) 1) none ∙ ap (λ ws. eqb (length ws) 1) (cond-false (has_lists version) (comma_pieces w) (w ∷ []) none)
    ]

-- one part may be there in each version
pub one_may : (version : ℕ) → MayHaveParts version 1
one_may version =
    elim (cases_Bool (has_lists version)) [
      | inl lists ↦ ap (λ b. b || true) lists
      | inr none ↦ ap (λ b. b || true) none
    ]
