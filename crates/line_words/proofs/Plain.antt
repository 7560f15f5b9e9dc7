-- Words that spell plain numbers.
use Rattle.std.proofs.Common.{◌≡◌, ℕ, ◌<◌, ◌≤◌, ◌^◌, ◌&&◌, ltb, List, [], length, Some, None, ap, sym, ◌∙◌, inl, inr, arith}
use Rattle.std.specs.Prelude.{decimal, bytes_eq}
use Rattle.std.specs.Str.Parse.{digits_value}
use Rattle.std.proofs.lemmas.Fmt.{decimal_is_IsNumeral, decimal_injective}
use Rattle.std.proofs.lemmas.Bool.{and_parts, and_from, ltb-true, lt-ltb, cond-true, cond-false, cases_Bool}
use Rattle.std.proofs.lemmas.Option.{cond_some}
use Rattle.std.proofs.lemmas.Slice.Eq.{bytes_eq-Decides}
use Rattle.line_words.specs.Words.{plain}

-- what a plain word is
pub plain_some : (w : List ℕ) (n : ℕ) → plain w ≡ Some n → (w ≡ decimal n) × (n < 2 ^ 32)
plain_some w n e =
    let v = digits_value 10 w in
    let p = cond_some (ltb v (2 ^ 32) && bytes_eq (decimal v) w) v n e in
    let q = and_parts (ltb v (2 ^ 32)) (bytes_eq (decimal v) w) p.0 in
    (sym ((bytes_eq-Decides (decimal v) w).0 q.1) ∙ ap decimal p.1, rw (← p.1) (ltb-true v (2 ^ 32) q.0))

pub plain_same : (w : List ℕ) → digits_value 10 w < 2 ^ 32 → decimal (digits_value 10 w) ≡ w → plain w ≡ Some (digits_value 10 w)
plain_same w low e =
    let v = digits_value 10 w in
    cond-true (ltb v (2 ^ 32) && bytes_eq (decimal v) w) (Some v) None (and_from (ltb v (2 ^ 32)) (bytes_eq (decimal v) w) (lt-ltb v (2 ^ 32) low) ((bytes_eq-Decides (decimal v) w).1 e))

pub plain_of_decimal : (n : ℕ) → n < 2 ^ 32 → plain (decimal n) ≡ Some n
plain_of_decimal n low =
    let e = (decimal_is_IsNumeral n (omega arith)).1 in
    plain_same (decimal n) (rw e low) (ap decimal e) ∙ ap Some e

-- a word that is no number's decimal form is not plain
pub plain_none : (w : List ℕ) → ((n : ℕ) → n < 2 ^ 32 → w ≡ decimal n → ⊥) → plain w ≡ None
plain_none w differs =
    elim (cases_Bool (ltb (digits_value 10 w) (2 ^ 32) && bytes_eq (decimal (digits_value 10 w)) w)) [
      | inl same ↦ let p = plain_some w (digits_value 10 w) (cond-true _ _ _ same) in absurd (differs (digits_value 10 w) p.1 p.0)
      | inr other ↦ cond-false _ _ _ other
    ]

pub plain_empty : plain [] ≡ None
plain_empty = plain_none [] (λ n low same. let p = (decimal_is_IsNumeral n (omega arith)).0 in let e = ap length same in omega arith)

-- a word that is no number's decimal form, up to 19 digits
pub plain_unnatural : (w : List ℕ) → ((n : ℕ) → n < 10 ^ 19 → w ≡ decimal n → ⊥) → plain w ≡ None
plain_unnatural w differs = plain_none w (λ n low same. differs n (omega arith) same)

pub plain_natural : (w : List ℕ) (n : ℕ) → w ≡ decimal n → n < 2 ^ 32 → plain w ≡ Some n
plain_natural w n e low = ap plain e ∙ plain_of_decimal n low

pub plain_large : (w : List ℕ) (n : ℕ) → w ≡ decimal n → n < 10 ^ 19 → 2 ^ 32 ≤ n → plain w ≡ None
plain_large w n e low high = plain_none w (λ m small same. let f = decimal_injective n m (omega arith) (omega arith) (sym e ∙ same) in omega arith)
