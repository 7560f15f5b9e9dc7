-- A word that is taken where it is.
use Rattle.std.proofs.Common.{◌≡◌, ℕ, ◌+◌, ◌*◌, ◌-◌, ◌<◌, ◌≤◌, ◌^◌, true, false, not, eqb, List, [], ◌∷◌, length, take, drop, get_or, refl, ap, sym, ◌∙◌, subst, arith, eq-eqb, drop-cons, length-drop}
use Rattle.std.specs.Fmt.{decimal}
use Rattle.std.specs.List.{list_all}
use Rattle.std.specs.Str.Parse.{AllDigits, digits_value}
use Rattle.std.proofs.lemmas.List.{get_or-drop, get_or-take, get_or_default, length-take-le}
use Rattle.std.proofs.lemmas.List.Sums.{AllPass-from_list_all, list_all-from_AllPass}
use Rattle.std.proofs.lemmas.Bool.{ne_eqb, not-true}
use Rattle.std.proofs.lemmas.Str.Parse.{digits_value_short, digit_at}
use Rattle.line_words.specs.StepWords.{step_word}
use Rattle.line_words.specs.Words.{words_from}
use Rattle.line_words.specs.declared.step_name.StepName.{StepName}
use Rattle.line_words.specs.declared.step_name.StepName.TheVariants.{Const, Compute, Has, Load, Store, Insert, Delete, Check, Skip, Out}
use Rattle.model_base.specs.declared.statement.Operation.TheVariants.{Add, Sub, Mul, Less, Same}
use Rattle.line_words.proofs.Digits.{all_digits_more, digits_form, one_digit, own, value_more}
use Rattle.line_words.proofs.Splits.{next_piece, place_is}

-- bytes without a space, up to one or to the line's end, are the next word
pub taken_word : (line : List ℕ) (start end : ℕ) (left : List (List ℕ)) → words_from start line ≡ left → start ≤ end → end ≤ length line
    → ((k : ℕ) → start + k < end → eqb (get_or line (start + k) 0) 32 ≡ false) → (end < length line → get_or line end 0 ≡ 32)
    → left ≡ take (end - start) (drop start line) ∷ words_from (end + 1) line
taken_word line start end left view behind within no_space space =
    next_piece 32 line start end left view (omega arith) (place_is line 32 start end behind within no_space (λ lt. eq-eqb (get_or line end 0) 32 (space lt))) within

-- one byte
pub one_byte : (line : List ℕ) (start byte : ℕ) (left : List (List ℕ)) → words_from start line ≡ left → start < length line → get_or line start 0 ≡ byte
    → (byte ≡ 32 → ⊥) → (start + 1 < length line → get_or line (start + 1) 0 ≡ 32) → left ≡ (byte ∷ []) ∷ words_from (start + 2) line
one_byte line start byte left view within is ne space =
    taken_word line start (start + 1) left view (omega arith) (omega arith)
    (λ k lt. let same : start + k ≡ start = omega arith in ap (λ i. eqb (get_or line i 0) 32) same ∙ ap (λ b. eqb b 32) is ∙ ne_eqb byte 32 ne) space
    ∙ ap (λ n. take n (drop start line) ∷ words_from (start + 1 + 1) line) (let one : start + 1 - start ≡ 1 = omega arith in one)
    ∙ ap (λ w. take 1 w ∷ words_from (start + 1 + 1) line) (drop-cons line start 0 within)
    ∙ ap (λ b. (b ∷ []) ∷ words_from (start + 1 + 1) line) is
    ∙ ap (λ n. (byte ∷ []) ∷ words_from n line) (let two : start + 1 + 1 ≡ start + 2 = omega arith in two)

-- one digit
pub digit_word : (line : List ℕ) (start : ℕ) (left : List (List ℕ)) → words_from start line ≡ left → start + 1 < length line
    → 48 ≤ get_or line start 0 → get_or line start 0 ≤ 57 → get_or line (start + 1) 0 ≡ 32 → left ≡ decimal (get_or line start 0 - 48) ∷ words_from (start + 2) line
digit_word line start left view within low high space =
    let byte = get_or line start 0 in
    one_byte line start byte left view (omega arith) refl (λ same. omega (arith, low, same)) (λ lt. space)
    ∙ ap (λ w. w ∷ words_from (start + 2) line) (one_digit (byte ∷ []) refl (omega (arith, low)) (omega (arith, high)))

-- three digits and a bar, each with a space after it
pub operand_words : (line : List ℕ) (start : ℕ) (left : List (List ℕ)) → words_from start line ≡ left → start + 7 < length line
    → 48 ≤ get_or line start 0 → get_or line start 0 ≤ 57 → get_or line (start + 1) 0 ≡ 32
    → 48 ≤ get_or line (start + 2) 0 → get_or line (start + 2) 0 ≤ 57 → get_or line (start + 3) 0 ≡ 32
    → 48 ≤ get_or line (start + 4) 0 → get_or line (start + 4) 0 ≤ 57 → get_or line (start + 5) 0 ≡ 32
    → get_or line (start + 6) 0 ≡ 124 → get_or line (start + 7) 0 ≡ 32
    → left ≡ decimal (get_or line start 0 - 48) ∷ decimal (get_or line (start + 2) 0 - 48) ∷ decimal (get_or line (start + 4) 0 - 48)
    ∷ (124 ∷ []) ∷ words_from (start + 8) line
operand_words line start left view within low high space low-2 high-2 space-2 low-3 high-3 space-3 bar space-4 =
    let at : (k m : ℕ) → k ≡ m → get_or line k 0 ≡ get_or line m 0 = λ k m same. ap (λ i. get_or line i 0) same in
    let next : (k m : ℕ) → k ≡ m → words_from k line ≡ words_from m line = λ k m same. ap (λ i. words_from i line) same in
    let a = decimal (get_or line start 0 - 48) in
    let b = decimal (get_or line (start + 2) 0 - 48) in
    let d = decimal (get_or line (start + 4) 0 - 48) in
    let s3 : start + 2 + 1 ≡ start + 3 = omega arith in
    let s4 : start + 2 + 2 ≡ start + 4 = omega arith in
    let s5 : start + 4 + 1 ≡ start + 5 = omega arith in
    let s6 : start + 4 + 2 ≡ start + 6 = omega arith in
    let s7 : start + 6 + 1 ≡ start + 7 = omega arith in
    let s8 : start + 6 + 2 ≡ start + 8 = omega arith in
    digit_word line start left view (omega arith) low high space
    ∙ ap (λ ws. a ∷ ws) (digit_word line (start + 2) (words_from (start + 2) line) refl (omega arith) low-2 high-2 (at (start + 2 + 1) (start + 3) s3 ∙ space-2)
    ∙ ap (λ ws. b ∷ ws) (next (start + 2 + 2) (start + 4) s4 ∙ digit_word line (start + 4) (words_from (start + 4) line) refl (omega arith) low-3 high-3 (at (start + 4 + 1) (start + 5) s5 ∙ space-3)
    ∙ ap (λ ws. d ∷ ws) (next (start + 4 + 2) (start + 6) s6 ∙ one_byte line (start + 6) 124 (words_from (start + 6) line) refl (omega arith) bar (λ same. omega (arith, same)) (λ lt. at (start + 6 + 1) (start + 7) s7 ∙ space-4)
    ∙ ap (λ ws. (124 ∷ []) ∷ ws) (next (start + 6 + 2) (start + 8) s8))))

-- digits hold no space
digits-no_space : (w : List ℕ) (k : ℕ) → AllDigits 10 w → k < length w → eqb (get_or w k 0) 32 ≡ false
digits-no_space w k digits lt = let d = digit_at w k digits lt in ne_eqb (get_or w k 0) 32 (λ same. omega (arith, d.0, same))

-- digits up to a space or the line's end are the next word, and the decimal form of what they write where no 0 is before others
pub number_word : (line : List ℕ) (start end value : ℕ) (left : List (List ℕ)) → words_from start line ≡ left → start < end → end ≤ length line → end ≤ start + 9
    → AllDigits 10 (take (end - start) (drop start line)) → value ≡ digits_value 10 (take (end - start) (drop start line))
    → (get_or line start 0 ≡ 48 → end ≡ start + 1) → (end < length line → get_or line end 0 ≡ 32)
    → (left ≡ decimal value ∷ words_from (end + 1) line) × (value < 2 ^ 32)
number_word line start end value left view some within few digits is lone space =
    let w = take (end - start) (drop start line) in
    let long : length (drop start line) ≡ length line - start = length-drop start line in
    let size : length w ≡ end - start = length-take-le (end - start) (drop start line) (omega arith) in
    let at : (k : ℕ) → start + k < end → get_or w k 0 ≡ get_or line (start + k) 0 =
    (λ k lt. get_or-take (end - start) (drop start line) k 0 (omega arith) ∙ get_or-drop start line k 0) in
    let first : get_or w 0 0 ≡ get_or line start 0 = at 0 (omega arith) ∙ ap (λ i. get_or line i 0) (let same : start + 0 ≡ start = omega arith in same) in
    let form = digits_form w value digits is (omega arith) (omega arith) (λ z. let one = lone (sym first ∙ z) in omega arith) in
    let low : digits_value 10 w < 10 ^ 9 = digits_value_short own w 9 digits (omega arith) in (
      taken_word line start end left view (omega arith) within
          (λ k lt. ap (λ b. eqb b 32) (sym (at k lt)) ∙ digits-no_space w k digits (omega arith)) space
          ∙ ap (λ v. v ∷ words_from (end + 1) line) form.0,
      omega (arith, is, low),
    )

-- one more digit of a line
pub digit_more : (line : List ℕ) (start place value : ℕ) → start ≤ place → place < length line → place < start + 9
    → AllDigits 10 (take (place - start) (drop start line)) → value ≡ digits_value 10 (take (place - start) (drop start line))
    → 48 ≤ get_or line place 0 → get_or line place 0 ≤ 57
    → AllDigits 10 (take (place + 1 - start) (drop start line))
    × (value * 10 + (get_or line place 0 - 48) ≡ digits_value 10 (take (place + 1 - start) (drop start line))) × (value < 10 ^ 8)
digit_more line start place value behind within few digits is low high =
    let w = drop start line in
    let i = place - start in
    let long : length w ≡ length line - start = length-drop start line in
    let at : get_or w i 0 ≡ get_or line place 0 = get_or-drop start line i 0 ∙ ap (λ j. get_or line j 0) (let same : start + i ≡ place = omega arith in same) in
    let next : place + 1 - start ≡ i + 1 = omega arith in
    let size : length (take i w) ≡ i = length-take-le i w (omega arith) in
    let small : digits_value 10 (take i w) < 10 ^ 8 = digits_value_short own (take i w) 8 digits (omega arith) in (
      subst (λ n. AllDigits 10 (take n w)) (sym next) (all_digits_more w i (omega arith) digits (omega (arith, at, low)) (omega (arith, at, high))),
      ap (λ b. value * 10 + (b - 48)) (sym at) ∙ ap (λ v. v * 10 + (get_or w i 0 - 48)) is
          ∙ sym (value_more w i (omega arith) (omega (arith, at, low)) (omega (arith, at, high))) ∙ ap (λ n. digits_value 10 (take n w)) (sym next),
      omega (arith, is, small),
    )

-- the word of a step holds no space
word-no_space : (s : StepName) → list_all (λ b. not (eqb b 32)) (step_word s) ≡ true
word-no_space Const = refl
word-no_space (Compute Add) = refl
word-no_space (Compute Sub) = refl
word-no_space (Compute Mul) = refl
word-no_space (Compute Less) = refl
word-no_space (Compute Same) = refl
word-no_space Has = refl
word-no_space Load = refl
word-no_space Store = refl
word-no_space Insert = refl
word-no_space Delete = refl
word-no_space Check = refl
word-no_space Skip = refl
word-no_space Out = refl

-- a word with a space after it is the next word
pub front_taken : (line : List ℕ) (start : ℕ) (word : List ℕ) (left : List (List ℕ)) → words_from start line ≡ left → start ≤ length line
    → length word < length (drop start line) → take (length word) (drop start line) ≡ word → list_all (λ b. not (eqb b 32)) word ≡ true
    → get_or (drop start line) (length word) 0 ≡ 32 → left ≡ word ∷ words_from (start + length word + 1) line
front_taken line start word left view within more is no_space space =
    let w = drop start line in
    let n = length word in
    let long : length w ≡ length line - start = length-drop start line in
    let size : start + n - start ≡ n = omega arith in
    taken_word line start (start + n) left view (omega arith) (omega arith)
    (λ k lt.
    ap (λ b. eqb b 32) (sym (get_or-drop start line k 0) ∙ sym (get_or-take n w k 0 (omega arith)) ∙ ap (λ v. get_or v k 0) is)
    ∙ not-true (eqb (get_or word k 0) 32) (AllPass-from_list_all (λ b. not (eqb b 32)) word no_space k 0 (omega arith)))
    (λ lt. sym (get_or-drop start line n 0) ∙ space)
    ∙ ap (λ m. take m w ∷ words_from (start + n + 1) line) size
    ∙ ap (λ v. v ∷ words_from (start + n + 1) line) is

-- so is the word of a step
pub step_taken : (line : List ℕ) (start : ℕ) (s : StepName) (left : List (List ℕ)) → words_from start line ≡ left → start ≤ length line
    → length (step_word s) < length (drop start line) → take (length (step_word s)) (drop start line) ≡ step_word s
    → get_or (drop start line) (length (step_word s)) 0 ≡ 32 → left ≡ step_word s ∷ words_from (start + length (step_word s) + 1) line
step_taken line start s left view within more word space = front_taken line start (step_word s) left view within more word (word-no_space s) space

no-space-digits : (w : List ℕ) → AllDigits 10 w → list_all (λ b. not (eqb b 32)) w ≡ true
no-space-digits w digits = list_all-from_AllPass (λ b. not (eqb b 32)) w (λ k d lt. ap not (let at = digit_at w k digits lt in ne_eqb (get_or w k d) 32 (λ same. let z = get_or_default w k d 0 lt in omega (arith, at, z, same))))

-- the digits of a part of a line are the decimal form of what they write, and hold no space
pub decimal_digits_all : (line : List ℕ) (start end value : ℕ) → start < end → end ≤ length line → end ≤ start + 9
    → AllDigits 10 (take (end - start) (drop start line)) → value ≡ digits_value 10 (take (end - start) (drop start line)) → (get_or line start 0 ≡ 48 → end ≡ start + 1)
    → (take (end - start) (drop start line) ≡ decimal value) × (value < 2 ^ 32) × (list_all (λ b. not (eqb b 32)) (decimal value) ≡ true)
decimal_digits_all line start end value some within few digits is lone =
    let w = take (end - start) (drop start line) in
    let long : length (drop start line) ≡ length line - start = length-drop start line in
    let size : length w ≡ end - start = length-take-le (end - start) (drop start line) (omega arith) in
    let first : get_or w 0 0 ≡ get_or line start 0 =
    get_or-take (end - start) (drop start line) 0 0 (omega arith) ∙ get_or-drop start line 0 0 ∙ ap (λ i. get_or line i 0) (let same : start + 0 ≡ start = omega arith in same) in
    let form = digits_form w value digits is (omega arith) (omega arith) (λ z. let one = lone (sym first ∙ z) in omega arith) in
    let low : digits_value 10 w < 10 ^ 9 = digits_value_short own w 9 digits (omega arith) in
    (form.0, omega (arith, is, low), ap (λ v. list_all (λ b. not (eqb b 32)) v) (sym form.0) ∙ no-space-digits w digits)
