-- An access that is taken where it is.
use Rattle.std.proofs.Common.{◌≡◌, ℕ, ◌+◌, ◌-◌, ◌<◌, ◌≤◌, Bool, true, false, not, eqb, List, [], ◌∷◌, ◌++◌, length, take, drop, get_or, refl, ap, sym, ◌∙◌, arith, drop-cons, length-drop, append_assoc, suc, inl, inr}
use Rattle.std.specs.Fmt.{decimal}
use Rattle.std.specs.List.{list_all, prefix_len}
use Rattle.std.proofs.lemmas.List.{drop-drop, get_or-drop, get_or-take, get_or_append_left, length-append, length-take-le, take-append-drop}
use Rattle.std.proofs.Math.Seq.{take-append_seam}
use Rattle.std.proofs.lemmas.List.Folds.{list_all-append}
use Rattle.std.proofs.lemmas.List.Sums.{AllPass-from_list_all, prefix_len_stops}
use Rattle.std.proofs.lemmas.Bool.{and_from, and_parts, cases_lt, not-true}
use Rattle.std.proofs.lemmas.Bool.Decides.{nat_tests}
use Rattle.model_base.specs.declared.deed.Kinds.{Kinds}
use Rattle.line_words.specs.Access.{access_word, letter_if, letters}
use Rattle.line_words.specs.Words.{is_letter, is_name, is_name_byte, words_from}
use Rattle.line_words.specs.declared.access.RawAccess.{RawAccess}
use Rattle.line_words.proofs.NameWords.{all_name_bytes, letter_byte, name_from}
use Rattle.line_words.proofs.TakenWords.{taken_word}

abbrev pub no_space : List ℕ → Bool
no_space w = list_all (λ b. not (eqb b 32)) w

-- bytes without a space at the front of a text, up to one or to the line's end, are the next word
pub front_word : (line : List ℕ) (start last : ℕ) (w : List ℕ) (left : List (List ℕ)) → words_from start line ≡ left → drop start line ≡ w ++ drop last line
    → last ≡ start + length w → last ≤ length line → no_space w ≡ true → (last < length line → get_or line last 0 ≡ 32) → left ≡ w ∷ words_from (last + 1) line
front_word line start last w left view is size within spaceless space =
    let long : last - start ≡ length w = omega arith in
    taken_word line start last left view (omega arith) within
    (λ k lt.
    ap (λ b. eqb b 32) (sym (get_or-drop start line k 0) ∙ ap (λ v. get_or v k 0) is ∙ get_or_append_left w (drop last line) 0 k (omega arith))
    ∙ not-true (eqb (get_or w k 0) 32) (AllPass-from_list_all (λ b. not (eqb b 32)) w spaceless k 0 (omega arith))) space
    ∙ ap (λ v. v ∷ words_from (last + 1) line)
    (ap (λ n. take n (drop start line)) long ∙ ap (take (length w)) is ∙ take-append_seam w (drop last line))

byte-no_space : (b : ℕ) → is_name_byte b ≡ true → not (eqb b 32) ≡ true
byte-no_space b e = grind (arith, nat_tests)

names-no_space : (bs : List ℕ) → list_all is_name_byte bs ≡ true → no_space bs ≡ true
names-no_space [] e = refl
names-no_space (b ∷ bs) e =
    let p = and_parts (is_name_byte b) (list_all is_name_byte bs) e in
    and_from (not (eqb b 32)) (no_space bs) (byte-no_space b p.0) (names-no_space bs p.1)

append-no_space : (xs ys : List ℕ) → no_space xs ≡ true → no_space ys ≡ true → no_space (xs ++ ys) ≡ true
append-no_space xs ys p q = list_all-append (λ b. not (eqb b 32)) xs ys ∙ and_from (no_space xs) (no_space ys) p q

letter-no_space : (b : Bool) (c : ℕ) → not (eqb c 32) ≡ true → no_space (letter_if b c) ≡ true
letter-no_space true c e = and_from (not (eqb c 32)) true e refl
letter-no_space false c e = refl

letters-no_space : (k : Kinds) → no_space (letters k) ≡ true
letters-no_space k =
    append-no_space (letter_if k.read 82) (letter_if k.insert 73 ++ (letter_if k.update 85 ++ letter_if k.delete 68)) (letter-no_space k.read 82 refl)
    (append-no_space (letter_if k.insert 73) (letter_if k.update 85 ++ letter_if k.delete 68) (letter-no_space k.insert 73 refl)
    (append-no_space (letter_if k.update 85) (letter_if k.delete 68) (letter-no_space k.update 85 refl) (letter-no_space k.delete 68 refl)))

access-no_space : (a : RawAccess) → list_all is_name_byte a.table ≡ true → no_space (decimal a.row) ≡ true → no_space (access_word a) ≡ true
access-no_space a named row =
    append-no_space a.table (58 ∷ (decimal a.row ++ 58 ∷ letters a.kinds)) (names-no_space a.table named)
    (append-no_space (decimal a.row) (58 ∷ letters a.kinds) row (letters-no_space a.kinds))

-- what is before an index, and what is from there on
split_at : (line : List ℕ) (start end : ℕ) → start ≤ end → drop start line ≡ take (end - start) (drop start line) ++ drop end line
split_at line start end behind =
    sym (take-append-drop (end - start) (drop start line)) ∙ ap (λ v. take (end - start) (drop start line) ++ v) (drop-drop (end - start) start line ∙ ap (λ n. drop n line) (let same : start + (end - start) ≡ end = omega arith in same))

-- a byte, and what is after it
byte_at : (line : List ℕ) (i byte : ℕ) → i < length line → get_or line i 0 ≡ byte → drop i line ≡ byte ∷ drop (i + 1) line
byte_at line i byte within is = drop-cons line i 0 within ∙ ap (λ b. b ∷ drop (suc i) line) is ∙ ap (λ n. byte ∷ drop n line) (let next : suc i ≡ i + 1 = omega arith in next)

-- there is one byte of a name at least where a letter stands
pub letter_some : (line : List ℕ) (start end : ℕ) → start < length line → end ≡ start + prefix_len is_name_byte (drop start line) → is_letter (get_or line start 0) ≡ true → start < end
letter_some line start end within value letter =
    elim (cases_lt 0 n) [
      | inl some ↦ omega (arith, value)
      | inr none ↦
          let zero_is : n ≡ 0 = omega arith in
          let stops : is_name_byte (get_or (drop start line) n 0) ≡ false = prefix_len_stops is_name_byte (drop start line) 0 (omega (arith, length-drop start line)) in
          let here : get_or (drop start line) n 0 ≡ get_or line start 0 =
          ap (λ k. get_or (drop start line) k 0) zero_is ∙ get_or-drop start line 0 0 ∙ ap (λ i. get_or line i 0) (let same : start + 0 ≡ start = omega arith in same) in
          absurd (true_false (sym (letter_byte (get_or line start 0) letter) ∙ ap is_name_byte (sym here) ∙ stops))
    ]
  where
    n : ℕ
    n = prefix_len is_name_byte (drop start line)

    true_false : true ≡ false → ⊥
    true_false same = cc

-- the bytes of a name are a name
pub front_name : (line : List ℕ) (start end : ℕ) → start < end → end ≤ length line → end ≡ start + prefix_len is_name_byte (drop start line) → is_letter (get_or line start 0) ≡ true
    → end - start ≤ 32 → is_name (take (end - start) (drop start line)) ≡ true
front_name line start end some within value letter short =
    let w = take (end - start) (drop start line) in
    let long : length (drop start line) ≡ length line - start = length-drop start line in
    let size : length w ≡ end - start = length-take-le (end - start) (drop start line) (omega arith) in
    name_from w (all_name_bytes (drop start line) (end - start) (omega (arith, value))) (omega arith)
    (ap is_letter (get_or-take (end - start) (drop start line) 0 0 (omega arith) ∙ get_or-drop start line 0 0 ∙ ap (λ i. get_or line i 0) (let same : start + 0 ≡ start = omega arith in same)) ∙ letter)
    (omega arith)

-- the parts of an access one after another are the next word
pub access_taken : (line : List ℕ) (start colon end insert_at update_at delete_at last : ℕ) (a : RawAccess) (left : List (List ℕ)) → words_from start line ≡ left
    → start ≤ colon → colon < length line → get_or line colon 0 ≡ 58 → a.table ≡ take (colon - start) (drop start line) → list_all is_name_byte a.table ≡ true
    → colon + 1 ≤ end → end < length line → get_or line end 0 ≡ 58 → take (end - (colon + 1)) (drop (colon + 1) line) ≡ decimal a.row → no_space (decimal a.row) ≡ true
    → drop (end + 1) line ≡ letter_if a.kinds.read 82 ++ drop insert_at line → insert_at ≡ end + 1 + length (letter_if a.kinds.read 82)
    → drop insert_at line ≡ letter_if a.kinds.insert 73 ++ drop update_at line → update_at ≡ insert_at + length (letter_if a.kinds.insert 73)
    → drop update_at line ≡ letter_if a.kinds.update 85 ++ drop delete_at line → delete_at ≡ update_at + length (letter_if a.kinds.update 85)
    → drop delete_at line ≡ letter_if a.kinds.delete 68 ++ drop last line → last ≡ delete_at + length (letter_if a.kinds.delete 68)
    → last ≤ length line → (last < length line → get_or line last 0 ≡ 32) → left ≡ access_word a ∷ words_from (last + 1) line
access_taken line start colon end insert_at update_at delete_at last a left view before in_colon is_colon table named digits in_end is_end row spaceless read read_len insert insert_len update update_len delete delete_len within space =
    front_word line start last (access_word a) left view whole size within (access-no_space a named spaceless) space
  where
    R : List ℕ
    R = letter_if a.kinds.read 82

    I : List ℕ
    I = letter_if a.kinds.insert 73

    U : List ℕ
    U = letter_if a.kinds.update 85

    D : List ℕ
    D = letter_if a.kinds.delete 68

    -- the letters
    spelled : drop (end + 1) line ≡ letters a.kinds ++ drop last line
    spelled =
        read ∙ ap (λ v. R ++ v) (insert ∙ ap (λ v. I ++ v) (update ∙ ap (λ v. U ++ v) delete))
        ∙ ap (λ v. R ++ (I ++ v)) (sym (append_assoc U D (drop last line)))
        ∙ ap (λ v. R ++ v) (sym (append_assoc I (U ++ D) (drop last line)))
        ∙ sym (append_assoc R (I ++ (U ++ D)) (drop last line))

    -- the row and the letters
    rowed : drop (colon + 1) line ≡ (decimal a.row ++ 58 ∷ letters a.kinds) ++ drop last line
    rowed =
        split_at line (colon + 1) end digits ∙ ap (λ v. v ++ drop end line) row ∙ ap (λ v. decimal a.row ++ v) (byte_at line end 58 in_end is_end ∙ ap (λ v. 58 ∷ v) spelled)
        ∙ sym (append_assoc (decimal a.row) (58 ∷ letters a.kinds) (drop last line))

    whole : drop start line ≡ access_word a ++ drop last line
    whole =
        split_at line start colon before ∙ ap (λ v. v ++ drop colon line) (sym table) ∙ ap (λ v. a.table ++ v) (byte_at line colon 58 in_colon is_colon ∙ ap (λ v. 58 ∷ v) rowed)
        ∙ sym (append_assoc a.table (58 ∷ (decimal a.row ++ 58 ∷ letters a.kinds)) (drop last line))

    size : last ≡ start + length (access_word a)
    size =
        let all = length-append (access_word a) (drop last line) in
        let here = length-drop start line in
        let rest = length-drop last line in
        let same = ap length whole in
        omega arith

-- letters that take up room are some
pub letters_some : (k : Kinds)
    → 0 < length (letter_if k.read 82) + (length (letter_if k.insert 73) + (length (letter_if k.update 85) + length (letter_if k.delete 68))) → letters k ≡ [] → ⊥
letters_some k some none =
    let all = ap length none in
    let first = length-append (letter_if k.read 82) (letter_if k.insert 73 ++ (letter_if k.update 85 ++ letter_if k.delete 68)) in
    let second = length-append (letter_if k.insert 73) (letter_if k.update 85 ++ letter_if k.delete 68) in
    let third = length-append (letter_if k.update 85) (letter_if k.delete 68) in
    omega arith
