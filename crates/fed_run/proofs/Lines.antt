-- Lines that are cut out of pieces.
use Rattle.std.proofs.Common.{◌≡◌, ◌≢◌, ℕ, zero, suc, ◌-◌, ◌≤◌, eqb, List, [], ◌∷◌, ◌++◌, length, take, drop, min, refl, inl, inr, ap, sym, ◌∙◌, subst, arith}
use Rattle.std.proofs.lemmas.Bool.{cases_eq, ne_eqb, cond-false, cases_lt, eqb-false, eqb-true}
use Rattle.std.proofs.lemmas.List.{length-append, length-drop, length-take, nil_from_length, take_all, take-take}
use Rattle.std.specs.Prelude.{Bool, true, false, if◌then◌else◌}
use Rattle.line_io.specs.Lines.{first_line, other_lines, HasLine}

first_more : (b : ℕ) (bs : List ℕ) → b ≢ 10 → first_line (b ∷ bs) ≡ b ∷ first_line bs
first_more b bs ne = cond-false (eqb b 10) [] (b ∷ first_line bs) (ne_eqb b 10 ne)

other_more : (b : ℕ) (bs : List ℕ) → b ≢ 10 → other_lines (b ∷ bs) ≡ other_lines bs
other_more b bs ne = cond-false (eqb b 10) bs (other_lines bs) (ne_eqb b 10 ne)

-- without an LF in the front the first line goes on after it
module _ (ys : List ℕ) where
  pub first_through : (xs : List ℕ) → (HasLine xs → ⊥) → first_line (xs ++ ys) ≡ xs ++ first_line ys
  first_through [] none = refl
  first_through (x ∷ xs) none =
      first_more x (xs ++ ys) (λ is. none (0, omega arith, is))
      ∙ ap (λ (w : List ℕ). x ∷ w) (first_through xs (λ some. none (suc some.0, omega (arith, some.1), some.2)))

  pub other_through : (xs : List ℕ) → (HasLine xs → ⊥) → other_lines (xs ++ ys) ≡ other_lines ys
  other_through [] none = refl
  other_through (x ∷ xs) none =
      other_more x (xs ++ ys) (λ is. none (0, omega arith, is)) ∙ other_through xs (λ some. none (suc some.0, omega (arith, some.1), some.2))

pub no_line : HasLine [] → ⊥
no_line some = omega (arith, some.1)

-- two pieces without an LF
pub no_line-append : (xs ys : List ℕ) → (HasLine xs → ⊥) → (HasLine ys → ⊥) → HasLine (xs ++ ys) → ⊥
no_line-append [] ys none later some = later some
no_line-append (x ∷ xs) ys none later (zero, less, is) = none (0, omega arith, is)
no_line-append (x ∷ xs) ys none later (suc k, less, is) =
    no_line-append xs ys (λ some. none (suc some.0, omega (arith, some.1), some.2)) later (k, omega (arith, less), is)

fewer : (xs : List ℕ) → length (other_lines xs) ≤ length xs
fewer [] = omega arith
fewer (x ∷ xs) =
    elim (eqb x 10) as (λ (b : Bool). length (if b then xs else other_lines xs) ≤ suc (length xs)) [ true ↦ omega arith | false ↦ omega (arith, fewer xs) ]

fewer_one : (x : ℕ) (xs : List ℕ) → length (other_lines (x ∷ xs)) ≤ length xs
fewer_one x xs =
    elim (eqb x 10) as (λ (b : Bool). length (if b then xs else other_lines xs) ≤ length xs) [ true ↦ omega arith | false ↦ fewer xs ]

-- the bytes up to and with the first LF, whatever follows them
pub cut_at : (f : List ℕ) (bytes : List ℕ) (count : ℕ) → count ≤ length bytes → other_lines (bytes ++ 10 ∷ []) ≡ drop count bytes ++ 10 ∷ []
    → (first_line (take count bytes ++ f) ≡ first_line (bytes ++ 10 ∷ [])) × (other_lines (take count bytes ++ f) ≡ f)
cut_at f [] count less is = absurd (omega (arith, ap length is, length-append {A = ℕ} (drop count []) (10 ∷ [])))
cut_at f (b ∷ bs) zero less is = absurd (omega (arith, ap length is, fewer_one b (bs ++ 10 ∷ []), length-append {A = ℕ} bs (10 ∷ [])))
cut_at f (b ∷ bs) (suc n) less is =
    elim (cases_eq b 10) [
      | inl same ↦
          let P : ℕ → Type 0 = λ v. other_lines ((v ∷ bs) ++ 10 ∷ []) ≡ drop n bs ++ 10 ∷ []
          → (first_line ((v ∷ take n bs) ++ f) ≡ first_line ((v ∷ bs) ++ 10 ∷ [])) × (other_lines ((v ∷ take n bs) ++ f) ≡ f) in
          subst P (sym same) (λ at.
          let none : n ≡ 0 = omega (arith, less, ap length at, length-append {A = ℕ} bs (10 ∷ []), length-append {A = ℕ} (drop n bs) (10 ∷ []), length-drop n bs) in
          (refl, ap (λ (m : ℕ). take m bs ++ f) none)) is
      | inr other ↦
          let rest = cut_at f bs n (omega (arith, less)) (sym (other_more b (bs ++ 10 ∷ []) other) ∙ is) in (
            first_more b (take n bs ++ f) other ∙ ap (λ (w : List ℕ). b ∷ w) rest.0 ∙ sym (first_more b (bs ++ 10 ∷ []) other),
            other_more b (take n bs ++ f) other ∙ rest.1,
          )
    ]

-- of a line's parts its first bytes are those of the first part and, as far as there is room, of the second
kept-parts : (n : ℕ) (xs ys : List ℕ) → take n xs ++ take (n - length (take n xs)) ys ≡ take n (xs ++ ys)
kept-parts zero xs ys = refl
kept-parts (suc n) [] ys = let same : suc n - 0 ≡ suc n = omega arith in ap (λ (m : ℕ). take m ys) same
kept-parts (suc n) (x ∷ xs) ys =
    let same : suc n - suc (length (take n xs)) ≡ n - length (take n xs) = omega arith in
    ap (λ (m : ℕ). x ∷ (take n xs ++ take m ys)) same ∙ ap (λ (w : List ℕ). x ∷ w) (kept-parts n xs ys)

take_min : (m : ℕ) (ys : List ℕ) → take (min m (length ys)) ys ≡ take m ys
take_min m ys =
    elim (cases_lt m (length ys)) [
      | inl less ↦ let same : min m (length ys) ≡ m = omega arith in ap (λ (k : ℕ). take k ys) same
      | inr more ↦ let same : min m (length ys) ≡ length ys = omega arith in
          ap (λ (k : ℕ). take k ys) same ∙ take_all (length ys) ys (omega arith) ∙ sym (take_all m ys (omega arith))
    ]

pub keeps_more : (line bytes kept : List ℕ) (count : ℕ) → kept ≡ take 4097 line → count ≡ min (4097 - length kept) (length bytes)
    → kept ++ take count bytes ≡ take 4097 (line ++ bytes)
keeps_more line bytes kept count is at =
    ap (λ (k : ℕ). kept ++ take k bytes) at
    ∙ ap (λ (w : List ℕ). kept ++ w) (take_min (4097 - length kept) bytes)
    ∙ ap (λ (w : List ℕ). w ++ take (4097 - length w) bytes) is
    ∙ kept-parts 4097 line bytes

-- what is cut off of the second part beforehand is cut off anyway
take_behind : (n m : ℕ) (xs ys : List ℕ) → n ≤ m → take n (xs ++ take m ys) ≡ take n (xs ++ ys)
take_behind n m [] ys less = take-take n m ys less
take_behind zero m (x ∷ xs) ys less = refl
take_behind (suc n) m (x ∷ xs) ys less = ap (λ (w : List ℕ). x ∷ w) (take_behind n m xs ys (omega arith))

-- the line that has begun and ends here, by the bytes that are kept of its parts
pub kept_line : (tail end line first : List ℕ) → end ≡ take 4097 first → line ≡ take 4097 (tail ++ end) → line ≡ take 4097 (tail ++ first)
kept_line tail end line first is at = at ∙ ap (λ (w : List ℕ). take 4097 (tail ++ w)) is ∙ take_behind 4097 4097 tail first (omega arith)

-- where nothing is kept of a line, nothing has begun
pub nothing_begun : (line : List ℕ) → [] ≡ take 4097 line → line ≡ []
nothing_begun [] is = refl
nothing_begun (b ∷ bs) is = absurd (omega (arith, ap length is, length-take 4097 (b ∷ bs)))

-- where nothing has begun, the bytes that end the line are the line
pub alone : (line end begun : List ℕ) → begun ≡ [] → begun ≡ take 4097 line → length end ≤ 4097 → end ≡ take 4097 (line ++ end)
alone line end begun none is short =
    sym (take_all 4097 end short) ∙ ap (λ (w : List ℕ). take 4097 (w ++ end)) (sym (nothing_begun line (sym none ∙ is)))

-- a cut line is short
pub short_line : (line first : List ℕ) → line ≡ take 4097 first → length line ≤ 4097
short_line line first is = omega (arith, ap length is, length-take 4097 first)

-- whether there are bytes, by a test of how many they are
pub nothing_in : (bytes : List ℕ) (n : ℕ) (b : Bool) → n ≡ length bytes → b ≡ eqb n 0 → b ≡ true → bytes ≡ []
nothing_in bytes n b long is so = nil_from_length bytes (sym long ∙ eqb-true n 0 (sym is ∙ so))

pub something_in : (bytes : List ℕ) (n : ℕ) (b : Bool) → n ≡ length bytes → b ≡ eqb n 0 → b ≡ false → bytes ≡ [] → ⊥
something_in bytes n b long is so none = eqb-false n 0 (sym is ∙ so) (long ∙ ap length none)
