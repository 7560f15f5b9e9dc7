-- One more line in the counts.
use Rattle.std.proofs.Common.{◌≡◌, ◌+◌, ◌<◌, ◌++◌, ◌∷◌, ℕ, Bool, true, false, cond, List, [], Option, length, slice_index, refl, sym, ap, ◌∙◌, arith, length-append}
use Rattle.std.specs.List.{count_by}
use Rattle.std.proofs.lemmas.List.Sums.{sum_by-append}
use Rattle.summary.specs.Counts.{AreWordCounts, count_of, is_number, raised_if, stopped}

raised-stopped : (is : Bool) (n : ℕ) → raised_if is (stopped n) ≡ stopped (n + cond is 1 0)
raised-stopped true n = omega arith
raised-stopped false n = omega arith

count-push : (p : List ℕ → Bool) (lines : List (List ℕ)) (line : List ℕ) → count_by p (lines ++ line ∷ []) ≡ count_by p lines + cond (p line) 1 0
count-push p lines line = let e = sum_by-append (λ (l : List ℕ). cond (p l) 1 0) lines (line ∷ []) in omega (arith, e)

-- one more line is counted if it passes
pub one-more : (p : List ℕ → Bool) (lines : List (List ℕ)) (line : List ℕ) (old new : ℕ)
    → old ≡ count_of p lines → new ≡ raised_if (p line) old → new ≡ count_of p (lines ++ line ∷ [])
one-more p lines line old new was more =
    more ∙ ap (raised_if (p line)) was ∙ raised-stopped (p line) (count_by p lines) ∙ ap stopped (sym (count-push p lines line))

-- one more line is counted
pub line-more : (lines : List (List ℕ)) (line : List ℕ) (old new : ℕ)
    → old ≡ stopped (length lines) → new ≡ raised_if true old → new ≡ stopped (length (lines ++ line ∷ []))
line-more lines line old new was more =
    let long : length lines + 1 ≡ length (lines ++ line ∷ []) = omega (arith, length-append lines (line ∷ [])) in
    more ∙ ap (raised_if true) was ∙ raised-stopped true (length lines) ∙ ap stopped long

-- and so is its word
pub word-more : (word_of : List ℕ → Option ℕ) (lines : List (List ℕ)) (line : List ℕ) (old new : List ℕ) → length new ≡ length old
    → AreWordCounts word_of lines old
    → ((k : ℕ) → k < length new → slice_index new k ≡ raised_if (is_number k (word_of line)) (slice_index old k))
    → AreWordCounts word_of (lines ++ line ∷ []) new
word-more word_of lines line old new long was more k within =
    one-more (λ l. is_number k (word_of l)) lines line (slice_index old k) (slice_index new k) (was k (omega (arith, long, within))) (more k within)
