-- The lines of a text, one by one.
use Rattle.std.proofs.Common.{◌≡◌, ◌≢◌, ℕ, suc, false, eqb, List, [], ◌∷◌, ◌++◌, refl, ap, sym, subst, inl, inr, ◌∙◌, arith}
use Rattle.std.specs.Prelude.{All}
use Rattle.std.specs.List.{onto_first}
use Rattle.std.proofs.lemmas.Bool.{cases_eq, ne_eqb, cond-false}
use Rattle.line_io.specs.Lines.{lines_of, first_line, other_lines}

at_byte : (b : ℕ) (bs : List ℕ) → onto_first b (lines_of bs) ≡ (b ∷ first_line bs) ∷ lines_of (other_lines bs) → lines_of (b ∷ bs) ≡ first_line (b ∷ bs) ∷ lines_of (other_lines (b ∷ bs))
at_byte b bs onto =
    elim (cases_eq b 10) [
      | inl is ↦ let P : ℕ → Type 0 = λ v. lines_of (v ∷ bs) ≡ first_line (v ∷ bs) ∷ lines_of (other_lines (v ∷ bs)) in subst P (sym is) refl
      | inr ne ↦ let e : eqb b 10 ≡ false = ne_eqb b 10 ne in rw e onto
    ]

-- the first line, and the lines of what follows it
pub lines_first : (b : ℕ) (bs : List ℕ) → lines_of (b ∷ bs) ≡ first_line (b ∷ bs) ∷ lines_of (other_lines (b ∷ bs))
lines_first b [] = at_byte b [] refl
lines_first b (c ∷ cs) = at_byte b (c ∷ cs) (ap (onto_first b) (lines_first c cs))

-- a byte before the first LF belongs to the first line
lines_more : (b : ℕ) (bs : List ℕ) → b ≢ 10 → lines_of (b ∷ bs) ≡ onto_first b (lines_of bs)
lines_more b bs ne = cond-false (eqb b 10) ([] ∷ lines_of bs) (onto_first b (lines_of bs)) (ne_eqb b 10 ne)

-- what is before an LF is the first line
pub lines_cut : (line rest : List ℕ) → All (λ b. b ≢ 10) line → lines_of (line ++ 10 ∷ rest) ≡ line ∷ lines_of rest
lines_cut [] rest free = refl
lines_cut (b ∷ bs) rest free =
    lines_more b (bs ++ 10 ∷ rest) (free 0 0 (omega arith))
    ∙ ap (onto_first b) (lines_cut bs rest (λ k d l. free (suc k) d (omega arith)))

-- a last piece without LF
pub lines_last : (b : ℕ) (bs : List ℕ) → All (λ c. c ≢ 10) (b ∷ bs) → lines_of (b ∷ bs) ≡ (b ∷ bs) ∷ []
lines_last b [] free = lines_more b [] (free 0 0 (omega arith))
lines_last b (c ∷ cs) free =
    lines_more b (c ∷ cs) (free 0 0 (omega arith))
    ∙ ap (onto_first b) (lines_last c cs (λ k d l. free (suc k) d (omega arith)))
