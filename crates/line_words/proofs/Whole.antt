-- Words that spell whole numbers.
use Rattle.std.proofs.Common.{◌≡◌, ◌≢◌, ℕ, suc, ◌-◌, ◌<◌, ◌≤◌, ◌^◌, true, ◌&&◌, eqb, ℤ, pos, negsuc, List, [], ◌∷◌, drop, length, get_or, Some, None, ap, sym, ◌∙◌, inl, inr, arith}
use Rattle.std.specs.Prelude.{bytes_eq}
use Rattle.std.specs.Fmt.{decimal, signed_decimal}
use Rattle.std.specs.Str.Parse.{signed_digits_value, without_leading_sign, without_leading_plus, digits_value}
use Rattle.std.proofs.lemmas.Str.Parse.{digit_at, without_leading_plus_none}
use Rattle.std.proofs.lemmas.Fmt.{decimal_is_IsNumeral, decimal_injective, signed_decimal_injective}
use Rattle.std.proofs.lemmas.Bool.{and_parts, and_from, ltb-true, lt-ltb, cond-true, cond-false, cases_Bool, ne_eqb}
use Rattle.std.proofs.lemmas.Option.{cond_some}
use Rattle.std.proofs.lemmas.Slice.Eq.{bytes_eq-Decides}
use lib.Signed.{mag}
use lib.IntN.{neg_ℤ}
use Rattle.std.proofs.Common.{w64, to_z, of_z, ◌-ℤ◌}
use Rattle.std.proofs.lemmas.Int.{ints}
use Rattle.line_words.specs.Words.{signed_of}
use Rattle.model_base.specs.Body.{fits_64_bits}

-- the bound, as std has it
pub magnitude : (z : ℤ) → fits_64_bits z ≡ true → mag z < 2 ^ 63
magnitude (pos n) h = ltb-true n (2 ^ 63) h
magnitude (negsuc n) h = ltb-true n (2 ^ 63) h

-- what a whole number's word is
pub whole_some : (w : List ℕ) (z : ℤ) → signed_of w ≡ Some z → (w ≡ signed_decimal z) × (fits_64_bits z ≡ true)
whole_some w z e =
    let v = signed_digits_value 10 w in
    let p = cond_some (fits_64_bits v && bytes_eq (signed_decimal v) w) v z e in
    let q = and_parts (fits_64_bits v) (bytes_eq (signed_decimal v) w) p.0 in
    (sym ((bytes_eq-Decides (signed_decimal v) w).0 q.1) ∙ ap signed_decimal p.1, ap fits_64_bits (sym p.1) ∙ q.0)

-- the first byte of a number without a sign
unsigned : (n : ℕ) → n < 2 ^ 64 → (get_or (decimal n) 0 0 ≢ 43) × (get_or (decimal n) 0 0 ≢ 45)
unsigned n low =
    let p = (decimal_is_IsNumeral n low).0 in
    let d = digit_at (decimal n) 0 p.1 p.0 in
    (λ e. omega (arith, d, e), λ e. omega (arith, d, e))

value_without_sign : (w : List ℕ) → get_or w 0 0 ≢ 43 → get_or w 0 0 ≢ 45 → signed_digits_value 10 w ≡ pos (digits_value 10 w)
value_without_sign w plus minus =
    let no = ne_eqb (get_or w 0 0) 45 minus in
    let ds : without_leading_sign w ≡ w = cond-false (eqb (get_or w 0 0) 45) (drop 1 w) (without_leading_plus w) no ∙ without_leading_plus_none w plus in
    cond-false (eqb (get_or w 0 0) 45) (neg_ℤ (pos (digits_value 10 (without_leading_sign w)))) (pos (digits_value 10 (without_leading_sign w))) no
    ∙ ap (λ v. pos (digits_value 10 v)) ds

value_back : (z : ℤ) → fits_64_bits z ≡ true → signed_digits_value 10 (signed_decimal z) ≡ z
value_back (pos n) h =
    let low : n < 2 ^ 64 = omega (arith, ltb-true n (2 ^ 63) h) in
    let u = unsigned n low in
    value_without_sign (decimal n) u.0 u.1 ∙ ap pos (decimal_is_IsNumeral n low).1
value_back (negsuc n) h =
    let low : suc n < 2 ^ 64 = omega (arith, ltb-true n (2 ^ 63) h) in
    ap (λ v. neg_ℤ (pos v)) (decimal_is_IsNumeral (suc n) low).1

pub whole_of_decimal : (z : ℤ) → fits_64_bits z ≡ true → signed_of (signed_decimal z) ≡ Some z
whole_of_decimal z h =
    let v = signed_digits_value 10 (signed_decimal z) in
    let e : v ≡ z = value_back z h in
    cond-true (fits_64_bits v && bytes_eq (signed_decimal v) (signed_decimal z)) (Some v) None
    (and_from (fits_64_bits v) (bytes_eq (signed_decimal v) (signed_decimal z)) (ap fits_64_bits e ∙ h) ((bytes_eq-Decides (signed_decimal v) (signed_decimal z)).1 (ap signed_decimal e)))
    ∙ ap Some e

-- a word that is no number's decimal form is not whole
pub whole_none : (w : List ℕ) → ((z : ℤ) → fits_64_bits z ≡ true → w ≡ signed_decimal z → ⊥) → signed_of w ≡ None
whole_none w differs =
    elim (cases_Bool (fits_64_bits (signed_digits_value 10 w) && bytes_eq (signed_decimal (signed_digits_value 10 w)) w)) [
      | inl same ↦ let p = whole_some w (signed_digits_value 10 w) (cond-true _ _ _ same) in absurd (differs (signed_digits_value 10 w) p.1 p.0)
      | inr other ↦ cond-false _ _ _ other
    ]

-- no word is that of two whole numbers
pub one_whole : (y z : ℤ) → fits_64_bits y ≡ true → fits_64_bits z ≡ true → signed_decimal y ≡ signed_decimal z → y ≡ z
one_whole y z h k e = signed_decimal_injective y z (magnitude y h) (magnitude z k) e

-- without a minus in front
module _ (w : List ℕ) (minus : get_or w 0 0 ≢ 45) where
  differs : ((n : ℕ) → n < 2 ^ 63 → w ≡ decimal n → ⊥) → (z : ℤ) → fits_64_bits z ≡ true → w ≡ signed_decimal z → ⊥
  differs other (pos n) h e = other n (ltb-true n (2 ^ 63) h) e
  differs other (negsuc n) h e = minus (ap (λ v. get_or v 0 0) e)

  pub plain_unnatural : ((n : ℕ) → n < 10 ^ 19 → w ≡ decimal n → ⊥) → signed_of w ≡ None
  plain_unnatural other = whole_none w (differs (λ n low e. other n (omega arith) e))

  pub plain_large : (n : ℕ) → w ≡ decimal n → n < 10 ^ 19 → 2 ^ 63 ≤ n → signed_of w ≡ None
  plain_large n e low high =
      whole_none w (differs (λ m small same. let f = decimal_injective n m (omega arith) (omega arith) (sym e ∙ same) in omega arith))

pub whole_natural : (w : List ℕ) (n : ℕ) → w ≡ decimal n → n < 2 ^ 63 → signed_of w ≡ Some (pos n)
whole_natural w n e low = ap signed_of e ∙ whole_of_decimal (pos n) (lt-ltb n (2 ^ 63) low)

-- after a minus
module _ (ds : List ℕ) where
  differs_behind : ((n : ℕ) → n < 2 ^ 63 → ds ≡ decimal (suc n) → ⊥) → (z : ℤ) → fits_64_bits z ≡ true → 45 ∷ ds ≡ signed_decimal z → ⊥
  differs_behind other (pos n) h e = (unsigned n (omega (arith, ltb-true n (2 ^ 63) h))).1 (ap (λ v. get_or v 0 0) (sym e))
  differs_behind other (negsuc n) h e = other n (ltb-true n (2 ^ 63) h) (ap (drop 1) e)

  pub minus_unnatural : ((n : ℕ) → n < 10 ^ 19 → ds ≡ decimal n → ⊥) → signed_of (45 ∷ ds) ≡ None
  minus_unnatural other = whole_none (45 ∷ ds) (differs_behind (λ n low e. other (suc n) (omega arith) e))

  pub minus_number : (n : ℕ) → ds ≡ decimal n → (n ≡ 0 → ⊥) → n ≤ 2 ^ 63 → signed_of (45 ∷ ds) ≡ Some (negsuc (n - 1))
  minus_number n e some high =
      let one : suc (n - 1) ≡ n = omega arith in
      ap (λ v. signed_of (45 ∷ v)) (e ∙ ap decimal (sym one)) ∙ whole_of_decimal (negsuc (n - 1)) (lt-ltb (n - 1) (2 ^ 63) (omega arith))

  pub minus_zero : (n : ℕ) → ds ≡ decimal n → n ≡ 0 → signed_of (45 ∷ ds) ≡ None
  minus_zero n e zero_is =
      whole_none (45 ∷ ds) (differs_behind (λ m small same. let f = decimal_injective n (suc m) (omega arith) (omega arith) (sym e ∙ same) in omega arith))

  pub minus_large : (n : ℕ) → ds ≡ decimal n → n < 10 ^ 19 → 2 ^ 63 < n → signed_of (45 ∷ ds) ≡ None
  minus_large n e low high =
      whole_none (45 ∷ ds) (differs_behind (λ m small same. let f = decimal_injective n (suc m) (omega arith) (omega arith) (sym e ∙ same) in omega arith))

pub whole_empty : signed_of [] ≡ None
whole_empty = plain_unnatural [] (λ e. omega (arith, e)) (λ n low same. let p = (decimal_is_IsNumeral n (omega arith)).0 in let e = ap length same in omega arith)

-- what the code computes after a minus
pub negated : (n : ℕ) → (n ≡ 0 → ⊥) → n ≤ 2 ^ 63 → to_z w64 (of_z w64 (negsuc 0 -ℤ to_z w64 (n - 1))) ≡ negsuc (n - 1)
negated n some high = omega (arith, ints)

pub whole_nothing : (w : List ℕ) → length w ≡ 0 → signed_of w ≡ None
whole_nothing [] e = whole_empty
whole_nothing (b ∷ bs) e = absurd (omega arith)

pub no_minus : (w : List ℕ) (b : ℕ) (bs : List ℕ) → w ≡ b ∷ bs → (b ≡ 45 → ⊥) → get_or w 0 0 ≢ 45
no_minus w b bs e ne = λ is. ne (ap (λ v. get_or v 0 0) (sym e) ∙ is)
