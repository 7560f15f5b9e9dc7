-- Lines that are cut out of bytes, and their beginnings.
use Rattle.std.proofs.Common.{length-drop, Bool, subst, MatchBool, ◌≡◌, ◌≢◌, ℕ, zero, suc, ◌+◌, ◌-◌, ◌<◌, ◌≤◌, All, List, [], ◌∷◌, ◌++◌, length, take, drop, min, Result, IsOk, OnOk, Ok, Err, refl, inl, inr, ap, sym, ◌∙◌, arith, append_assoc, slice_index, get_or}
use Rattle.std.proofs.lemmas.Bool.{cases_lt, eq-eqb, eqb-true}
use Rattle.std.proofs.lemmas.List.{get_or-take, get_or_default, length-take, take-append-drop, take_all}
use Rattle.std.proofs.Math.Seq.{drop-cons}
use Rattle.memchr.specs.Find.{IsFirstByte, NoneBefore, Nowhere, Passes, is_byte}

-- of a result that is Ok what it says holds
pub ok-so : {T E : Type 0} (r : Result T E) (P : Type 0) → IsOk r → OnOk r P → P
ok-so (Ok x) P is so = so
ok-so (Err e) P is so = let D : Bool → Type 0 = λ b. MatchBool b P (Unit {0}) in subst D is tt

take-front : (head : List ℕ) (n : ℕ) (piece : List ℕ) → length head ≤ n → take n (head ++ piece) ≡ head ++ take (n - length head) piece
take-front [] n piece le = ap (λ (m : ℕ). take m piece) (omega arith)
take-front (x ∷ head) zero piece le = absurd (omega (arith, le))
take-front (x ∷ head) (suc n) piece le =
    ap (λ (w : List ℕ). x ∷ w) (take-front head n piece (omega (arith, le))
    ∙ ap (λ (m : ℕ). head ++ take m piece) (let e : n - length head ≡ suc n - length (x ∷ head) = omega arith in e))

take-least : (n : ℕ) (piece : List ℕ) → take n piece ≡ take (min n (length piece)) piece
take-least n piece =
    elim (cases_lt n (length piece)) [
      | inl lt ↦ ap (λ (m : ℕ). take m piece) (let e : n ≡ min n (length piece) = omega arith in e)
      | inr ge ↦ take_all n piece ge ∙ sym (take_all (length piece) piece (omega arith))
          ∙ ap (λ (m : ℕ). take m piece) (let e : length piece ≡ min n (length piece) = omega arith in e)
    ]

-- as much of a piece is kept as there is room for
pub kept-piece : (head piece : List ℕ) (count : ℕ) → length head ≤ 64 → count ≡ min (64 - length head) (length piece)
    → head ++ take count piece ≡ take 64 (head ++ piece)
kept-piece head piece count le is =
    ap (λ (m : ℕ). head ++ take m piece) is ∙ ap (λ (w : List ℕ). head ++ w) (sym (take-least (64 - length head) piece))
    ∙ sym (take-front head 64 piece le)

-- no LF is before the first one
pub free-before : (bytes : List ℕ) (feed : ℕ) → feed ≤ length bytes → Nowhere (Passes (is_byte 10) bytes) 0 feed → All (λ b. b ≢ 10) (take feed bytes)
free-before bytes feed within free k d less is =
    let below : k < feed = omega (arith, less, length-take feed bytes) in
    let there : slice_index bytes k ≡ 10 =
    get_or_default bytes k 0 d (omega (arith, below, within)) ∙ sym (get_or-take feed bytes k d below) ∙ is in
    free k (omega arith) below (eq-eqb (slice_index bytes k) 10 there)

-- nor anywhere where none is
pub free-all : (bytes : List ℕ) → Nowhere (Passes (is_byte 10) bytes) 0 (length bytes) → All (λ b. b ≢ 10) bytes
free-all bytes free k d less is =
    free k (omega arith) less (eq-eqb (slice_index bytes k) 10 (get_or_default bytes k 0 d less ∙ is))

-- the bytes are those before the first LF, the LF, and those after it
pub at-feed : (bytes : List ℕ) (feed : ℕ) → feed < length bytes → Passes (is_byte 10) bytes feed
    → take feed bytes ++ 10 ∷ drop (suc feed) bytes ≡ bytes
at-feed bytes feed within is =
    ap (λ (b : ℕ). take feed bytes ++ b ∷ drop (suc feed) bytes) (sym (eqb-true (slice_index bytes feed) 10 is))
    ∙ ap (λ (w : List ℕ). take feed bytes ++ w) (sym (drop-cons bytes feed 0 within))
    ∙ take-append-drop feed bytes

-- one line more is done
pub done-more : (done bytes left rest piece : List ℕ) → done ++ left ≡ bytes → piece ++ 10 ∷ rest ≡ left → (done ++ piece ++ 10 ∷ []) ++ rest ≡ bytes
done-more done bytes left rest piece all one =
    append_assoc (done ++ piece) (10 ∷ []) rest ∙ append_assoc done piece (10 ∷ rest) ∙ ap (λ (w : List ℕ). done ++ w) one ∙ all

rest-after : (bytes : List ℕ) (feed : ℕ) → feed < length bytes → take (length bytes - (feed + 1)) (drop (feed + 1) bytes) ≡ drop (suc feed) bytes
rest-after bytes feed within =
    take_all (length bytes - (feed + 1)) (drop (feed + 1) bytes) (omega (arith, length-drop (feed + 1) bytes))
    ∙ ap (λ (n : ℕ). drop n bytes) (let e : feed + 1 ≡ suc feed = omega arith in e)

-- so they are where the rest is a part of them
pub cut-feed-at : (bytes : List ℕ) (feed : ℕ) → feed < length bytes → Passes (is_byte 10) bytes feed
    → take feed bytes ++ 10 ∷ take (length bytes - (feed + 1)) (drop (feed + 1) bytes) ≡ bytes
cut-feed-at bytes feed within is = ap (λ (w : List ℕ). take feed bytes ++ 10 ∷ w) (rest-after bytes feed within) ∙ at-feed bytes feed within is

pub three-on : (text done piece : List ℕ) → (text ++ done) ++ piece ++ 10 ∷ [] ≡ text ++ (done ++ piece ++ 10 ∷ [])
three-on text done piece =
    ap (λ (w : List ℕ). w ++ 10 ∷ []) (append_assoc text done piece) ∙ append_assoc text (done ++ piece) (10 ∷ [])

pub two-on : (text done left bytes : List ℕ) → done ++ left ≡ bytes → (text ++ done) ++ left ≡ text ++ bytes
two-on text done left bytes is = append_assoc text done left ∙ ap (λ (w : List ℕ). text ++ w) is
