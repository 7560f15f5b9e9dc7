-- Words of accesses.
use Rattle.std.proofs.Common.{◌≡◌, ℕ, ◌+◌, ◌<◌, ◌^◌, true, false, not, eqb, List, [], ◌∷◌, ◌++◌, length, take, drop, get_or, Some, refl, ap, sym, ◌∙◌, arith, drop-cons, add-one, suc, length-drop, length-append}
use Rattle.std.specs.Prelude.{codes, decimal}
use Rattle.std.specs.List.{position_or_len}
use Rattle.std.proofs.lemmas.List.{take-append-drop}
use Rattle.std.proofs.lemmas.List.Sums.{prefix_len_stops}
use Rattle.std.proofs.lemmas.Bool.{ne_eqb, cond-false, not-false, not-true, eqb-true, eqb-false, and_right, and_parts}
use Rattle.line_words.specs.Words.{plain}
use Rattle.line_words.proofs.Plain.{plain_some}
use Rattle.line_words.specs.Access.{is_in_order, is_letters, before_colon, after_colon}

pub order_nil : (cs : List ℕ) → is_in_order cs [] ≡ true
order_nil [] = refl
order_nil (c ∷ cs) = refl

pub order_other : (c b : ℕ) (cs bs : List ℕ) → (b ≡ c → ⊥) → is_in_order (c ∷ cs) (b ∷ bs) ≡ is_in_order cs (b ∷ bs)
order_other c b cs bs ne = cond-false (eqb b c) (is_in_order cs bs) (is_in_order cs (b ∷ bs)) (ne_eqb b c ne)

pub none_in_order : (bs : List ℕ) → (length bs ≡ 0 → ⊥) → is_in_order [] bs ≡ false
none_in_order [] ne = absurd (ne refl)
none_in_order (b ∷ bs) ne = refl

pub no_letters : (w : List ℕ) → is_in_order (codes "RIUD") w ≡ false → is_letters w ≡ false
no_letters w e = and_right (not (eqb (length w) 0)) (is_in_order (codes "RIUD") w) e

-- a word is what is before its first colon, the colon, and what is after it
pub rejoin : (w : List ℕ) → 0 < length (after_colon w) → w ≡ before_colon w ++ 58 ∷ after_colon w
rejoin w some =
    let i = position_or_len (λ b. eqb b 58) w in
    let within : i < length w = omega (arith, length-drop (i + 1) w) in
    let is : get_or w i 0 ≡ 58 = eqb-true (get_or w i 0) 58 (not-false (eqb (get_or w i 0) 58) (prefix_len_stops (λ b. not (eqb b 58)) w 0 within)) in
    let rest : drop i w ≡ 58 ∷ drop (i + 1) w = drop-cons w i 0 within ∙ ap (λ b. b ∷ drop (suc i) w) is ∙ ap (λ k. 58 ∷ drop k w) (sym (add-one i)) in
    sym (take-append-drop i w) ∙ ap (λ v. take i w ++ v) rest

pub access_is : (w table : List ℕ) (row : ℕ) (ls : List ℕ) → table ≡ before_colon w → plain (before_colon (after_colon w)) ≡ Some row → ls ≡ after_colon (after_colon w) → is_letters ls ≡ true →
    (w ≡ table ++ 58 ∷ (decimal row ++ 58 ∷ ls)) × (row < 2 ^ 32) × (ls ≡ [] → ⊥)
access_is w table row ls t r l h =
    let p = plain_some (before_colon (after_colon w)) row r in
    let q = and_parts (not (eqb (length ls) 0)) (is_in_order (codes "RIUD") ls) h in
    let ne = eqb-false (length ls) 0 (not-true (eqb (length ls) 0) q.0) in
    let some : 0 < length ls = omega arith in
    let e2 = rejoin (after_colon w) (omega (arith, some, ap length l)) in
    let e1 = rejoin w (omega (arith, ap length e2, length-append (before_colon (after_colon w)) (58 ∷ after_colon (after_colon w)))) in
    (e1 ∙ ap (λ v. v ++ 58 ∷ after_colon w) (sym t) ∙ ap (λ v. table ++ 58 ∷ v) (e2 ∙ ap (λ v. v ++ 58 ∷ after_colon (after_colon w)) p.0 ∙ ap (λ v. decimal row ++ 58 ∷ v) (sym l)), p.1, λ e. omega (arith, some, ap length e))
