-- Digits, and the numbers that they write.
use Rattle.std.proofs.Common.{◌≡◌, ℕ, false, leb, ◌+◌, ◌*◌, ◌-◌, ◌<◌, ◌≤◌, ◌^◌, List, [], ◌∷◌, ◌++◌, length, take, get_or, ap, sym, ◌∙◌, subst, inl, inr, arith}
use Rattle.std.proofs.lemmas.Bool.{cases_eq, and_from, le-leb}
use Rattle.std.specs.Fmt.{decimal}
use Rattle.std.specs.Char.{digit_value, is_ascii_digit}
use Rattle.std.specs.Str.Parse.{AllDigits, digits_value}
use Rattle.std.proofs.lemmas.List.{take_more, length-take-le}
use Rattle.std.proofs.lemmas.Str.{digit_value_digit}
use Rattle.std.proofs.lemmas.Str.Parse.{IsNumeralModel, numerals_by_value, tells_digits, digits_value_short, digit_at}
use Rattle.std.proofs.lemmas.Int.Digits.{digits_value_more}
use Rattle.std.proofs.lemmas.Fmt.{decimal_is_IsNumeral, decimal-digits_value, first_decimal, decimal_digit, length-decimal-le}

pub own : IsNumeralModel (AllDigits 10) (digits_value 10)
own = numerals_by_value (AllDigits 10) tells_digits

all_digits_push : (xs : List ℕ) (c : ℕ) → AllDigits 10 xs → digit_value c < 10 → AllDigits 10 (xs ++ c ∷ [])
all_digits_push [] c h low = (low, tt)
all_digits_push (x ∷ xs) c h low = (h.0, all_digits_push xs c h.1 low)

value_of : (c : ℕ) → 48 ≤ c → c ≤ 57 → digit_value c ≡ c - 48
value_of c low high = let e = digit_value_digit c (low, high) in omega arith

pub all_digits_more : (w : List ℕ) (i : ℕ) → i < length w → AllDigits 10 (take i w) → 48 ≤ get_or w i 0 → get_or w i 0 ≤ 57 → AllDigits 10 (take (i + 1) w)
all_digits_more w i lt h low high =
    let e = value_of (get_or w i 0) low high in
    subst (AllDigits 10) (sym (take_more w i 0 lt)) (all_digits_push (take i w) (get_or w i 0) h (omega arith))

-- one more digit
pub value_more : (w : List ℕ) (i : ℕ) → i < length w → 48 ≤ get_or w i 0 → get_or w i 0 ≤ 57 → digits_value 10 (take (i + 1) w) ≡ digits_value 10 (take i w) * 10 + (get_or w i 0 - 48)
value_more w i lt low high = digits_value_more 10 w i lt ∙ ap (λ d. digits_value 10 (take i w) * 10 + d) (value_of (get_or w i 0) low high)

-- at most 19 digits write a number below 10^19
pub value_low : (w : List ℕ) → AllDigits 10 w → length w ≤ 19 → digits_value 10 w < 10 ^ 19
value_low w h short = digits_value_short own w 19 h short

pub next_low : (w : List ℕ) (i : ℕ) → i < length w → length w ≤ 19 → AllDigits 10 (take i w) → 48 ≤ get_or w i 0 → get_or w i 0 ≤ 57 → digits_value 10 (take i w) * 10 + (get_or w i 0 - 48) < 10 ^ 19
next_low w i lt short h low high =
    let e = value_more w i lt low high in
    let long : length (take (i + 1) w) ≡ i + 1 = length-take-le (i + 1) w (omega arith) in
    let v = value_low (take (i + 1) w) (all_digits_more w i lt h low high) (omega arith) in
    omega arith

-- a number's decimal form is digits, with no leading zero
pub decimal_digits : (n : ℕ) → n < 10 ^ 19 → AllDigits 10 (decimal n)
decimal_digits n low = (decimal_is_IsNumeral n (omega arith)).0.1

pub not_empty_form : (w : List ℕ) (n : ℕ) → length w ≡ 0 → n < 10 ^ 19 → w ≡ decimal n → ⊥
not_empty_form w n e low is = let p = (decimal_is_IsNumeral n (omega arith)).0.0 in let f = ap length is in omega arith

pub not_long_form : (w : List ℕ) (n : ℕ) → 19 < length w → n < 10 ^ 19 → w ≡ decimal n → ⊥
not_long_form w n long low is = let p = length-decimal-le 19 n (omega arith) low (omega arith) in let f = ap length is in omega arith

pub not_zero_form : (w : List ℕ) (n : ℕ) → get_or w 0 0 ≡ 48 → 1 < length w → n < 10 ^ 19 → w ≡ decimal n → ⊥
not_zero_form w n z long low is =
    let f : get_or (decimal n) 0 0 ≡ 48 = ap (λ v. get_or v 0 0) (sym is) ∙ z in
    let g = ap length is in
    elim (cases_eq n 0) [
      | inl zero_is ↦ let one : length (decimal n) ≡ 1 = ap length (ap decimal zero_is ∙ decimal_digit 0 (omega arith)) in omega arith
      | inr more ↦ let h = first_decimal n (omega arith) (omega arith) in omega arith
    ]

pub digits_form : (w : List ℕ) (v : ℕ) → AllDigits 10 w → v ≡ digits_value 10 w → 0 < length w → length w ≤ 19 → (get_or w 0 0 ≡ 48 → length w ≡ 1) → (w ≡ decimal v) × (v < 10 ^ 19)
digits_form w v h e some short zero =
    let low = value_low w h short in
    (sym (ap decimal e ∙ decimal-digits_value own w h some zero (omega arith)), omega (arith, e, low))

pub all_digits_of : (w : List ℕ) (n : ℕ) → n < 10 ^ 19 → w ≡ decimal n → AllDigits 10 w
all_digits_of w n low e = subst (AllDigits 10) (sym e) (decimal_digits n low)

pub no_digit : (w : List ℕ) (i : ℕ) → AllDigits 10 w → i < length w → false ≡ is_ascii_digit (get_or w i 0) → ⊥
no_digit w i h lt e =
    let r = digit_at w i h lt in
    let yes = and_from (leb 48 (get_or w i 0)) (leb (get_or w i 0) 57) (le-leb 48 (get_or w i 0) r.0) (le-leb (get_or w i 0) 57 r.1) in
    cc

pub one_digit : (w : List ℕ) → length w ≡ 1 → 48 ≤ get_or w 0 0 → get_or w 0 0 ≤ 57 → w ≡ decimal (get_or w 0 0 - 48)
one_digit [] e low high = absurd (omega arith)
one_digit (b ∷ []) e low high = let f : 48 + (b - 48) ≡ b = omega arith in ap (λ d. d ∷ []) (sym f) ∙ sym (decimal_digit (b - 48) (omega arith))
one_digit (b ∷ c ∷ bs) e low high = absurd (omega arith)
