-- The words of statements hold printable bytes alone.
use Rattle.std.proofs.Common.{◌≡◌, ℕ, suc, ℤ, pos, negsuc, ◌<◌, ◌≤◌, ◌^◌, true, ◌&&◌, leb, ltb, List, [], ◌∷◌, ◌++◌, length, get_or, refl, ◌∙◌, arith}
use Rattle.std.specs.Prelude.{decimal, IsUtf8}
use Rattle.std.specs.Fmt.{signed_decimal}
use Rattle.std.specs.Str.Parse.{AllDigits}
use Rattle.std.specs.List.{list_all, join_with_byte, AllByRecursion}
use Rattle.std.proofs.lemmas.List.Folds.{list_all-append}
use Rattle.std.proofs.lemmas.Fmt.{decimal_is_IsNumeral}
use Rattle.std.proofs.lemmas.Bool.{and_parts, and_from, leb-true, le-leb, ltb-true}
use Rattle.std.proofs.lemmas.Bool.Decides.{nat_tests}
use Rattle.std.proofs.lemmas.Str.Parse.{digit_from_value}
use Rattle.std.proofs.lemmas.List.Sums.{AllPass-from_list_all}
use Rattle.std.proofs.lemmas.Str.{IsUtf8-from_ascii}
use Rattle.std.proofs.lemmas.Str.Ascii.{IsAscii-from_all}
use Rattle.line_words.specs.Words.{is_name, is_name_byte, is_letter}
use Rattle.line_words.specs.Words.{is_printable}
use Rattle.model_base.specs.Body.{fits_64_bits}

abbrev pub IsPrintable : List ℕ → Type 0
IsPrintable bytes = list_all is_printable bytes ≡ true

printable_byte : (b : ℕ) → 32 ≤ b → b ≤ 126 → is_printable b ≡ true
printable_byte b low high = and_from (leb 32 b) (leb b 126) (le-leb 32 b low) (le-leb b 126 high)

name_byte : (b : ℕ) → is_name_byte b ≡ true → is_printable b ≡ true
name_byte b e = grind (arith, nat_tests)

letter : (b : ℕ) → is_letter b ≡ true → is_printable b ≡ true
letter b e = grind (arith, nat_tests)

name_bytes : (bs : List ℕ) → list_all is_name_byte bs ≡ true → IsPrintable bs
name_bytes [] e = refl
name_bytes (b ∷ bs) e =
    let p = and_parts (is_name_byte b) (list_all is_name_byte bs) e in
    and_from (is_printable b) (list_all is_printable bs) (name_byte b p.0) (name_bytes bs p.1)

pub printable_name : (w : List ℕ) → is_name w ≡ true → IsPrintable w
printable_name [] e = refl
printable_name (b ∷ bs) e =
    let p = and_parts (is_letter b && list_all is_name_byte bs) (ltb (length bs) 32) e in
    let q = and_parts (is_letter b) (list_all is_name_byte bs) p.0 in
    and_from (is_printable b) (list_all is_printable bs) (letter b q.0) (name_bytes bs q.1)

digits : (ds : List ℕ) → AllDigits 10 ds → IsPrintable ds
digits [] h = refl
digits (d ∷ ds) h =
    let r = digit_from_value d h.0 in
    and_from (is_printable d) (list_all is_printable ds) (printable_byte d (omega (arith, r)) (omega (arith, r))) (digits ds h.1)

pub printable_decimal : (n : ℕ) → n < 2 ^ 64 → IsPrintable (decimal n)
printable_decimal n low = digits (decimal n) (decimal_is_IsNumeral n low).0.1

pub printable_signed : (z : ℤ) → fits_64_bits z ≡ true → IsPrintable (signed_decimal z)
printable_signed (pos n) low = printable_decimal n (omega (arith, ltb-true n (2 ^ 63) low))
printable_signed (negsuc n) low =
    and_from (is_printable 45) (list_all is_printable (decimal (suc n))) refl (printable_decimal (suc n) (omega (arith, ltb-true n (2 ^ 63) low)))

pub printable_append : (xs ys : List ℕ) → IsPrintable xs → IsPrintable ys → IsPrintable (xs ++ ys)
printable_append xs ys p q = list_all-append is_printable xs ys ∙ and_from (list_all is_printable xs) (list_all is_printable ys) p q

pub printable_join : (ws : List (List ℕ)) → AllByRecursion IsPrintable ws → IsPrintable (join_with_byte 32 ws)
printable_join [] h = refl
printable_join (w ∷ []) h = h.0
printable_join (w ∷ v ∷ ws) h =
    printable_append w (32 ∷ join_with_byte 32 (v ∷ ws)) h.0 (printable_join (v ∷ ws) h.1)

pub utf8_line : (line : List ℕ) → IsPrintable line → IsUtf8 line
utf8_line line h = IsUtf8-from_ascii line (IsAscii-from_all line (λ k d low.
    let p = AllPass-from_list_all is_printable line h k d low in
    let q = and_parts (leb 32 (get_or line k d)) (leb (get_or line k d) 126) p in
    omega (arith, leb-true (get_or line k d) 126 q.1)))

pub utf8_name : (w : List ℕ) → is_name w ≡ true → IsUtf8 w
utf8_name w h = utf8_line w (printable_name w h)
