-- Access words fit, and each is the word of one access.
use Rattle.std.proofs.Common.{◌≡◌, ℕ, ◌+◌, ◌<◌, ◌^◌, Bool, true, false, not, eqb, ltb, ◌&&◌, List, [], ◌∷◌, ◌++◌, length, take, drop, Some, None, refl, ap, sym, ◌∙◌, arith, append_assoc}
use Rattle.std.specs.Prelude.{codes, decimal}
use Rattle.std.specs.List.{position_or_len, list_all, list_any}
use Rattle.std.specs.Str.Parse.{AllDigits}
use Rattle.std.proofs.Math.Seq.{take-append_seam}
use Rattle.std.proofs.lemmas.List.{drop_at, length_push}
use Rattle.std.proofs.lemmas.Str.Parse.{digit_from_value}
use Rattle.std.proofs.lemmas.Fmt.{decimal_is_IsNumeral, decimal_injective}
use Rattle.std.proofs.lemmas.Bool.{ne_eqb, cond-true, and_parts, and_from, not_from_false}
use Rattle.std.proofs.lemmas.Bool.Decides.{nat_tests}
use Rattle.line_words.specs.Words.{plain, is_name, is_name_byte, is_letter}
use Rattle.line_words.proofs.Plain.{plain_of_decimal}
use Rattle.line_words.specs.Access.{letter_if, is_in_order, is_letters, before_colon, after_colon, access_fault, access_word, letters, IsAccess}
use Rattle.model_base.specs.declared.deed.Kinds.{Kinds}
use Rattle.line_words.specs.declared.access.RawAccess.{RawAccess}

-- where the first colon stands
seam : (xs ys : List ℕ) → list_all (λ b. not (eqb b 58)) xs ≡ true → position_or_len (λ b. eqb b 58) (xs ++ 58 ∷ ys) ≡ length xs
seam [] ys e = refl
seam (x ∷ xs) ys e =
    let p = and_parts (not (eqb x 58)) (list_all (λ b. not (eqb b 58)) xs) e in
    let h : not (eqb x 58) ≡ true = p.0 in
    let i : position_or_len (λ b. eqb b 58) (xs ++ 58 ∷ ys) ≡ length xs = seam xs ys p.1 in
    cond-true (not (eqb x 58)) (1 + position_or_len (λ b. eqb b 58) (xs ++ 58 ∷ ys)) 0 h ∙ omega (arith, i)

before_seam : (xs ys : List ℕ) → list_all (λ b. not (eqb b 58)) xs ≡ true → before_colon (xs ++ 58 ∷ ys) ≡ xs
before_seam xs ys e = ap (λ n. take n (xs ++ 58 ∷ ys)) (seam xs ys e) ∙ take-append_seam xs (58 ∷ ys)

after_seam : (xs ys : List ℕ) → list_all (λ b. not (eqb b 58)) xs ≡ true → after_colon (xs ++ 58 ∷ ys) ≡ ys
after_seam xs ys e =
    ap (λ n. drop (n + 1) (xs ++ 58 ∷ ys)) (seam xs ys e) ∙ ap (drop (length xs + 1)) (sym (append_assoc xs (58 ∷ []) ys))
    ∙ drop_at (xs ++ 58 ∷ []) ys (length xs + 1) (length_push xs 58)

name_byte : (b : ℕ) → is_name_byte b ≡ true → not (eqb b 58) ≡ true
name_byte b e = grind (arith, nat_tests)

letter : (b : ℕ) → is_letter b ≡ true → not (eqb b 58) ≡ true
letter b e = grind (arith, nat_tests)

name_bytes : (bs : List ℕ) → list_all is_name_byte bs ≡ true → list_all (λ b. not (eqb b 58)) bs ≡ true
name_bytes [] e = refl
name_bytes (b ∷ bs) e =
    let p = and_parts (is_name_byte b) (list_all is_name_byte bs) e in
    and_from (not (eqb b 58)) (list_all (λ b. not (eqb b 58)) bs) (name_byte b p.0) (name_bytes bs p.1)

name_no_colon : (w : List ℕ) → is_name w ≡ true → list_all (λ b. not (eqb b 58)) w ≡ true
name_no_colon [] e = refl
name_no_colon (b ∷ bs) e =
    let p = and_parts (is_letter b && list_all is_name_byte bs) (ltb (length bs) 32) e in
    let q = and_parts (is_letter b) (list_all is_name_byte bs) p.0 in
    and_from (not (eqb b 58)) (list_all (λ b. not (eqb b 58)) bs) (letter b q.0) (name_bytes bs q.1)

digits_no_colon : (ds : List ℕ) → AllDigits 10 ds → list_all (λ b. not (eqb b 58)) ds ≡ true
digits_no_colon [] h = refl
digits_no_colon (d ∷ ds) h =
    let r = digit_from_value d h.0 in
    let e : eqb d 58 ≡ false = ne_eqb d 58 (λ is. omega (arith, r)) in
    and_from (not (eqb d 58)) (list_all (λ b. not (eqb b 58)) ds) (not_from_false (eqb d 58) e) (digits_no_colon ds h.1)

decimal_no_colon : (n : ℕ) → n < 2 ^ 64 → list_all (λ b. not (eqb b 58)) (decimal n) ≡ true
decimal_no_colon n low = digits_no_colon (decimal n) (decimal_is_IsNumeral n low).0.1

abbrev four : Bool → Bool → Bool → Bool → List ℕ
four r i u d = letter_if r 82 ++ (letter_if i 73 ++ (letter_if u 85 ++ letter_if d 68))

in_order : (r i u d : Bool) → is_in_order (codes "RIUD") (four r i u d) ≡ true
in_order true true true true = refl
in_order true true true false = refl
in_order true true false true = refl
in_order true true false false = refl
in_order true false true true = refl
in_order true false true false = refl
in_order true false false true = refl
in_order true false false false = refl
in_order false true true true = refl
in_order false true true false = refl
in_order false true false true = refl
in_order false true false false = refl
in_order false false true true = refl
in_order false false true false = refl
in_order false false false true = refl
in_order false false false false = refl

-- the kinds, from the letters
kinds_back : (r i u d : Bool) → (list_any (λ b. eqb b 82) (four r i u d) ≡ r) × (list_any (λ b. eqb b 73) (four r i u d) ≡ i) × (list_any (λ b. eqb b 85) (four r i u d) ≡ u) × (list_any (λ b. eqb b 68) (four r i u d) ≡ d)
kinds_back true true true true = (refl, refl, refl, refl)
kinds_back true true true false = (refl, refl, refl, refl)
kinds_back true true false true = (refl, refl, refl, refl)
kinds_back true true false false = (refl, refl, refl, refl)
kinds_back true false true true = (refl, refl, refl, refl)
kinds_back true false true false = (refl, refl, refl, refl)
kinds_back true false false true = (refl, refl, refl, refl)
kinds_back true false false false = (refl, refl, refl, refl)
kinds_back false true true true = (refl, refl, refl, refl)
kinds_back false true true false = (refl, refl, refl, refl)
kinds_back false true false true = (refl, refl, refl, refl)
kinds_back false true false false = (refl, refl, refl, refl)
kinds_back false false true true = (refl, refl, refl, refl)
kinds_back false false true false = (refl, refl, refl, refl)
kinds_back false false false true = (refl, refl, refl, refl)
kinds_back false false false false = (refl, refl, refl, refl)

-- the parts of an access word
pub word_parts : (t : List ℕ) (n : ℕ) (ls : List ℕ) → is_name t ≡ true → n < 2 ^ 32 →
    (before_colon (t ++ 58 ∷ (decimal n ++ 58 ∷ ls)) ≡ t) × (before_colon (after_colon (t ++ 58 ∷ (decimal n ++ 58 ∷ ls))) ≡ decimal n) × (after_colon (after_colon (t ++ 58 ∷ (decimal n ++ 58 ∷ ls))) ≡ ls)
word_parts t n ls h low =
    let a = after_seam t (decimal n ++ 58 ∷ ls) (name_no_colon t h) in
    let c = decimal_no_colon n (omega arith) in
    (before_seam t (decimal n ++ 58 ∷ ls) (name_no_colon t h), ap before_colon a ∙ before_seam (decimal n) ls c, ap after_colon a ∙ after_seam (decimal n) ls c)

not_nil : (xs : List ℕ) → (xs ≡ [] → ⊥) → not (eqb (length xs) 0) ≡ true
not_nil [] ne = absurd (ne refl)
not_nil (x ∷ xs) ne = not_from_false (eqb (length (x ∷ xs)) 0) (ne_eqb (length (x ∷ xs)) 0 (λ e. omega arith))

fit_parts : (w : List ℕ) (n : ℕ) → is_name (before_colon w) ≡ true → plain (before_colon (after_colon w)) ≡ Some n → is_letters (after_colon (after_colon w)) ≡ true → access_fault w ≡ None
fit_parts w n a b c = rw (a, b, c) refl

-- an access's word fits
pub access_fits : (a : RawAccess) → IsAccess a → access_fault (access_word a) ≡ None
access_fits a h =
    let ls = letters a.kinds in
    let p = word_parts a.table a.row ls h.0 h.1 in
    let is : is_letters ls ≡ true = and_from (not (eqb (length ls) 0)) (is_in_order (codes "RIUD") ls) (not_nil ls h.2) (in_order a.kinds.read a.kinds.insert a.kinds.update a.kinds.delete) in
    fit_parts (access_word a) a.row (ap is_name p.0 ∙ h.0) (ap plain p.1 ∙ plain_of_decimal a.row h.1) (ap is_letters p.2 ∙ is)

one_kinds : (k l : Kinds) → letters k ≡ letters l → k ≡ l
one_kinds k l e =
    let p = kinds_back k.read k.insert k.update k.delete in
    let q = kinds_back l.read l.insert l.update l.delete in
    let make : Bool → Bool → Bool → Bool → Kinds = λ r i u d. record { read = r; insert = i; update = u; delete = d } in
    let e1 : k.read ≡ l.read = sym p.0 ∙ ap (λ w. list_any (λ b. eqb b 82) w) e ∙ q.0 in
    let e2 : k.insert ≡ l.insert = sym p.1 ∙ ap (λ w. list_any (λ b. eqb b 73) w) e ∙ q.1 in
    let e3 : k.update ≡ l.update = sym p.2 ∙ ap (λ w. list_any (λ b. eqb b 85) w) e ∙ q.2 in
    let e4 : k.delete ≡ l.delete = sym p.3 ∙ ap (λ w. list_any (λ b. eqb b 68) w) e ∙ q.3 in
    ap (λ r. make r k.insert k.update k.delete) e1 ∙ ap (λ i. make l.read i k.update k.delete) e2 ∙ ap (λ u. make l.read l.insert u k.delete) e3 ∙ ap (make l.read l.insert l.update) e4

-- no word is that of two accesses
pub one_access : (a b : RawAccess) → IsAccess a → IsAccess b → access_word a ≡ access_word b → a ≡ b
one_access a b h k e =
    let p = word_parts a.table a.row (letters a.kinds) h.0 h.1 in
    let q = word_parts b.table b.row (letters b.kinds) k.0 k.1 in
    let make : List ℕ → ℕ → Kinds → RawAccess = λ t r kinds. record { table = t; row = r; kinds = kinds } in
    let e1 : a.table ≡ b.table = sym p.0 ∙ ap before_colon e ∙ q.0 in
    let e2 : decimal a.row ≡ decimal b.row = sym p.1 ∙ ap (λ w. before_colon (after_colon w)) e ∙ q.1 in
    let e3 : letters a.kinds ≡ letters b.kinds = sym p.2 ∙ ap (λ w. after_colon (after_colon w)) e ∙ q.2 in
    ap (λ t. make t a.row a.kinds) e1 ∙ ap (λ r. make b.table r a.kinds) (decimal_injective a.row b.row (omega (arith, h.1)) (omega (arith, k.1)) e2) ∙ ap (make b.table b.row) (one_kinds a.kinds b.kinds e3)
