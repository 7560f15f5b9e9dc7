-- A line's next word, read as a name in one pass.
use Rattle.std.proofs.Common.{◌≡◌, ℕ, ◌+◌, ◌-◌, ◌<◌, ◌≤◌, ◌&&◌, true, false, not, eqb, ltb, inl, inr, List, [], ◌∷◌, length, take, drop, get_or, refl, ap, sym, ◌∙◌, arith, eq-eqb}
use Rattle.std.specs.List.{list_all, position_or_len, prefix_len}
use Rattle.std.proofs.lemmas.List.{length-drop, get_or-drop, get_or-take, length-take-le}
use Rattle.std.proofs.lemmas.List.Sums.{prefix_len_passes, prefix_len_stops, prefix_len_is, prefix_len-le-length, position_or_len_is, passes_at_first, AllPass-from_list_all, list_all-from_AllPass}
use Rattle.std.proofs.lemmas.Bool.{and_parts, and_from, false_from_ne_true, cases_lt, lt-ltb, eqb-true, eqb-false, ltb-true}
use Rattle.std.proofs.lemmas.Bool.Decides.{nat_tests}
use Rattle.line_words.specs.Words.{first_word, is_name, is_name_byte, is_letter}
use Rattle.line_words.specs.Words.{words_from}
use Rattle.line_words.proofs.Splits.{next_piece}

no_space : (b : ℕ) → is_name_byte b ≡ true → eqb b 32 ≡ false
no_space b e = grind (arith, nat_tests)

pub letter_byte : (b : ℕ) → is_letter b ≡ true → is_name_byte b ≡ true
letter_byte b e = grind (arith, nat_tests)

-- where the bytes of a name end
pub name_end_is : (w : List ℕ) (start i : ℕ) → start ≤ i → i ≤ length w → ((k : ℕ) → start + k < i → is_name_byte (get_or w (start + k) 0) ≡ true) → (i < length w → is_name_byte (get_or w i 0) ≡ false) →
    i ≡ start + prefix_len is_name_byte (drop start w)
name_end_is w start i behind within before stops =
    let long : length (drop start w) ≡ length w - start = length-drop start w in
    let at : prefix_len is_name_byte (drop start w) ≡ i - start =
    prefix_len_is is_name_byte (drop start w) (i - start) 0 (omega arith)
    (λ k lt. ap is_name_byte (get_or-drop start w k 0) ∙ before k (omega arith))
    (λ lt. let e : start + (i - start) ≡ i = omega arith in ap is_name_byte (get_or-drop start w (i - start) 0 ∙ ap (λ j. get_or w j 0) e) ∙ stops (omega arith)) in
    omega (arith, at)

-- a name's bytes up to a space or the end are the first word
ends_word : (rest : List ℕ) → (prefix_len is_name_byte rest < length rest → get_or rest (prefix_len is_name_byte rest) 0 ≡ 32) → position_or_len (λ b. eqb b 32) rest ≡ prefix_len is_name_byte rest
ends_word rest space =
    position_or_len_is (λ b. eqb b 32) rest (prefix_len is_name_byte rest) 0 (prefix_len-le-length is_name_byte rest)
    (λ k lt. no_space (get_or rest k 0) (prefix_len_passes is_name_byte rest k 0 lt))
    (λ lt. eq-eqb (get_or rest (prefix_len is_name_byte rest) 0) 32 (space lt))

-- the bytes up to there may all be in a name
pub all_name_bytes : (rest : List ℕ) (n : ℕ) → n ≡ prefix_len is_name_byte rest → list_all is_name_byte (take n rest) ≡ true
all_name_bytes rest n e =
    let within : n ≤ length rest = omega (arith, prefix_len-le-length is_name_byte rest, e) in
    let long : length (take n rest) ≡ n = length-take-le n rest within in
    list_all-from_AllPass is_name_byte (take n rest) (λ k d lt. ap is_name_byte (get_or-take n rest k d (omega arith)) ∙ prefix_len_passes is_name_byte rest k d (omega arith))

pub name_from : (w : List ℕ) → list_all is_name_byte w ≡ true → 0 < length w → is_letter (get_or w 0 0) ≡ true → length w ≤ 32 → is_name w ≡ true
name_from [] all some letter short = absurd (omega arith)
name_from (b ∷ bs) all some letter short =
    let p = and_parts (is_name_byte b) (list_all is_name_byte bs) all in
    and_from (is_letter b && list_all is_name_byte bs) (ltb (length bs) 32) (and_from (is_letter b) (list_all is_name_byte bs) letter p.1) (lt-ltb (length bs) 32 (omega arith))

name_all : (w : List ℕ) → is_name w ≡ true → (list_all is_name_byte w ≡ true) × (0 < length w) × (is_letter (get_or w 0 0) ≡ true) × (length w ≤ 32)
name_all [] e = cc
name_all (b ∷ bs) e =
    let p = and_parts (is_letter b && list_all is_name_byte bs) (ltb (length bs) 32) e in
    let q = and_parts (is_letter b) (list_all is_name_byte bs) p.0 in
    (and_from (is_name_byte b) (list_all is_name_byte bs) (letter_byte b q.0) q.1, omega arith, q.0, omega (arith, ltb-true (length bs) 32 p.1))

pub long_no_name : (w : List ℕ) → 32 < length w → is_name w ≡ false
long_no_name w long = false_from_ne_true (is_name w) (λ h. let p = name_all w h in omega (arith, p.3))

foreign_no_name : (w : List ℕ) (k : ℕ) → k < length w → is_name_byte (get_or w k 0) ≡ false → is_name w ≡ false
foreign_no_name w k lt e = false_from_ne_true (is_name w) (λ h. let p = AllPass-from_list_all is_name_byte w (name_all w h).0 k 0 lt in cc)

-- a word of a name's bytes
pub name_word : (line : List ℕ) (start end : ℕ) (left : List (List ℕ)) → words_from start line ≡ left → start ≤ length line → end ≡ start + prefix_len is_name_byte (drop start line) → end ≤ length line →
    (end < length line → get_or line end 0 ≡ 32) → (left ≡ take (end - start) (drop start line) ∷ words_from (end + 1) line) × (list_all is_name_byte (take (end - start) (drop start line)) ≡ true)
name_word line start end left view within value bound space =
    let rest = drop start line in
    let long : length rest ≡ length line - start = length-drop start line in
    let n : end - start ≡ prefix_len is_name_byte rest = omega (arith, value) in
    let e : position_or_len (λ b. eqb b 32) rest ≡ prefix_len is_name_byte rest =
    ends_word rest (λ lt. get_or-drop start line (prefix_len is_name_byte rest) 0 ∙ ap (λ j. get_or line j 0) (sym value) ∙ space (omega arith)) in
    (next_piece 32 line start end left view within (omega (arith, value, e)) bound, all_name_bytes rest (end - start) n)

-- a word with a byte that can't be in a name
pub foreign_word : (line : List ℕ) (start end : ℕ) (left : List (List ℕ)) → words_from start line ≡ left → start ≤ length line → end ≡ start + prefix_len is_name_byte (drop start line) → end < length line →
    (get_or line end 0 ≡ 32 → ⊥) → is_name (first_word left) ≡ false
foreign_word line start end left view within value more ne =
    let rest = drop start line in
    let long : length rest ≡ length line - start = length-drop start line in
    let p = prefix_len is_name_byte rest in
    let q = position_or_len (λ b. eqb b 32) rest in
    let low : q ≤ length rest = prefix_len-le-length (λ b. not (eqb b 32)) rest in
    let here : get_or rest p 0 ≡ get_or line end 0 = get_or-drop start line p 0 ∙ ap (λ j. get_or line j 0) (sym value) in
    let stop : is_name_byte (get_or rest p 0) ≡ false = prefix_len_stops is_name_byte rest 0 (omega arith) in
    let beyond : p < q = elim (cases_lt p q) [
      | inl before ↦ before
      | inr behind ↦
          let space : get_or rest q 0 ≡ 32 = eqb-true (get_or rest q 0) 32 (passes_at_first (λ b. eqb b 32) rest 0 (omega arith)) in
          elim (cases_lt q p) [
            | inl under ↦ absurd (let byte = no_space (get_or rest q 0) (prefix_len_passes is_name_byte rest q 0 under) in eqb-false (get_or rest q 0) 32 byte space)
            | inr over ↦ absurd (ne (sym here ∙ ap (λ j. get_or rest j 0) (let f : p ≡ q = omega arith in f) ∙ space))
          ]
    ] in
    let w = take q rest in
    let size : length w ≡ q = length-take-le q rest low in
    let r : left ≡ take (start + q - start) rest ∷ words_from (start + q + 1) line = next_piece 32 line start (start + q) left view within refl (omega arith) in
    let same : start + q - start ≡ q = omega arith in
    ap (λ ws. is_name (first_word ws)) (r ∙ ap (λ n. take n rest ∷ words_from (start + q + 1) line) same)
    ∙ foreign_no_name w p (omega arith) (ap is_name_byte (get_or-take q rest p 0 beyond) ∙ stop)

-- the word is not a name
pub first_no_name : (left : List (List ℕ)) (w : List ℕ) (ws : List (List ℕ)) → left ≡ w ∷ ws → is_name w ≡ false → is_name (first_word left) ≡ false
first_no_name left w ws e h = ap (λ vs. is_name (first_word vs)) e ∙ h

-- a name holds no space
pub name-no_space : (w : List ℕ) → is_name w ≡ true → list_all (λ b. not (eqb b 32)) w ≡ true
name-no_space w e =
    let all = (name_all w e).0 in
    list_all-from_AllPass (λ b. not (eqb b 32)) w (λ k d lt. ap not (no_space (get_or w k d) (AllPass-from_list_all is_name_byte w all k d lt)))

-- a name ends where a colon is after it
pub name_end_there : (line : List ℕ) (start : ℕ) (name : List ℕ) → is_name name ≡ true → start + length name < length line
    → take (length name) (drop start line) ≡ name → get_or line (start + length name) 0 ≡ 58
    → start + length name ≡ start + prefix_len is_name_byte (drop start line)
name_end_there line start name named within same colon =
    name_end_is line start (start + length name) (omega arith) (omega arith)
    (λ k lt. ap is_name_byte (sym (get_or-drop start line k 0) ∙ sym (get_or-take (length name) (drop start line) k 0 (omega arith)) ∙ ap (λ w. get_or w k 0) same)
    ∙ AllPass-from_list_all is_name_byte name (name_all name named).0 k 0 (omega arith))
    (λ lt. ap is_name_byte colon)
