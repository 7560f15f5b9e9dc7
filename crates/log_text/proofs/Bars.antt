-- Words that are no bars, and words that are not each other.
use Rattle.std.proofs.Common.{◌≡◌, ℕ, ◌<◌, ◌≤◌, ◌^◌, true, false, leb, ltb, ◌&&◌, List, [], ◌∷◌, ◌++◌, length, get_or, ap, sym, arith}
use Rattle.std.specs.Prelude.{decimal, codes}
use Rattle.std.proofs.lemmas.Str.Parse.{digit_at}
use Rattle.std.specs.List.{list_all}
use Rattle.std.proofs.lemmas.Fmt.{decimal_is_IsNumeral, decimal_injective}
use Rattle.std.proofs.lemmas.Slice.Eq.{bytes_eq-Decides}
use Rattle.std.proofs.lemmas.Bool.{and_parts, leb-true, false_from_ne_true}
use Rattle.line_words.specs.Words.{is_name, is_letter, is_name_byte}
use Rattle.log_text.specs.Fault.{is_bar}
use Rattle.line_words.specs.Access.{access_word, IsAccess, letters}
use Rattle.line_words.specs.declared.access.RawAccess.{RawAccess}
use Rattle.model_base.specs.declared.statement.RowName.{RowName}
use Rattle.model_base.specs.declared.statement.RowName.TheVariants.{Number, Held}
use Rattle.log_text.specs.Statement.{row_word, IsRowNumber}

-- the first byte of a number is a digit
pub first_of_decimal : (n : ℕ) → n < 2 ^ 64 → (48 ≤ get_or (decimal n) 0 0) × (get_or (decimal n) 0 0 ≤ 57)
first_of_decimal n low = let p = (decimal_is_IsNumeral n low).0 in digit_at (decimal n) 0 p.1 p.0

-- the first byte of a name is a letter
pub first_of_name : (w : List ℕ) → is_name w ≡ true → (97 ≤ get_or w 0 0) × (get_or w 0 0 ≤ 122)
first_of_name [] e = cc
first_of_name (b ∷ bs) e =
    let p = and_parts (is_letter b && list_all is_name_byte bs) (ltb (length bs) 32) e in
    let q = and_parts (is_letter b) (list_all is_name_byte bs) p.0 in
    let r = and_parts (leb 97 b) (leb b 122) q.0 in
    (leb-true 97 b r.0, leb-true b 122 r.1)

-- a word that begins with a name is no bar
pub name_no_bar : (w : List ℕ) → is_name w ≡ true → (v : List ℕ) → w ++ v ≡ codes "|" → ⊥
name_no_bar [] h v e = cc
name_no_bar (b ∷ bs) h v e = let f = first_of_name (b ∷ bs) h in let g : b ≡ 124 = ap (λ w. get_or w 0 0) e in omega (arith, f.1, g)

pub decimal_ne_bar : (n : ℕ) → n < 2 ^ 64 → decimal n ≡ codes "|" → ⊥
decimal_ne_bar n low e = let f = first_of_decimal n low in let g : get_or (decimal n) 0 0 ≡ 124 = ap (λ w. get_or w 0 0) e in omega arith

pub no_bar : (w : List ℕ) → (w ≡ codes "|" → ⊥) → is_bar w ≡ false
no_bar w ne = false_from_ne_true (is_bar w) (λ e. ne ((bytes_eq-Decides w (codes "|")).0 e))

pub access_ne_bar : (a : RawAccess) → IsAccess a → access_word a ≡ codes "|" → ⊥
access_ne_bar a h e =
    let g = name_no_bar a.table h.0 (58 ∷ (decimal a.row ++ 58 ∷ letters a.kinds)) in
    g e

-- rows have words of their own
pub one_row : (r s : RowName) → IsRowNumber r → IsRowNumber s → row_word r ≡ row_word s → r ≡ s
one_row (Number m) (Number n) h k e = ap Number (decimal_injective m n (omega (arith, h)) (omega (arith, k)) e)
one_row (Number m) (Held n) h k e = let f = first_of_decimal m (omega (arith, h)) in let g : get_or (decimal m) 0 0 ≡ 114 = ap (λ w. get_or w 0 0) e in absurd (omega arith)
one_row (Held m) (Number n) h k e = let f = first_of_decimal n (omega (arith, k)) in let g : get_or (decimal n) 0 0 ≡ 114 = ap (λ w. get_or w 0 0) (sym e) in absurd (omega arith)
one_row (Held m) (Held n) h k e =
    let f : decimal m ≡ decimal n = cc in
    ap Held (decimal_injective m n (omega (arith, h)) (omega (arith, k)) f)
