-- A text that is cut into lines, and more bytes.
use Rattle.std.proofs.Common.{◌≡◌, ◌≢◌, ◌+◌, ◌<◌, ◌++◌, ◌∷◌, ℕ, zero, suc, All, List, [], eqb, length, fold, map, take, refl, sym, ap, ◌∙◌, arith, append_assoc}
use Rattle.std.proofs.lemmas.Bool.{ne_eqb, cond-false}
use Rattle.std.proofs.lemmas.List.{append-nil, map-append}
use Rattle.std.proofs.lemmas.List.Sums.{fold-append}
use Rattle.summary.specs.Lines.{Cut, cut_of, cut_with}
use Rattle.summary.specs.Counts.{AreLineCounts}
use Rattle.summary.specs.Tallied.{AreCountsOf, IsTallied, head_of}
use Rattle.summary.specs.declared.counts.Counts.{Counts}

abbrev longer : Cut → List ℕ → Cut
longer cut piece = record { lines = cut.lines; rest = cut.rest ++ piece }

abbrev ended : Cut → Cut
ended cut = record { lines = cut.lines ++ cut.rest ∷ []; rest = [] }

-- bytes without an LF go on with the line
fold-piece : (piece : List ℕ) (cut : Cut) → All (λ b. b ≢ 10) piece → fold cut_with cut piece ≡ longer cut piece
fold-piece [] cut free = ap (λ (rest : List ℕ). let c : Cut = record { lines = cut.lines; rest = rest } in c) (sym (append-nil cut.rest))
fold-piece (b ∷ piece) cut free =
    ap (λ (c : Cut). fold cut_with c piece) (cond-false (eqb b 10) (ended cut) (longer cut (b ∷ [])) (ne_eqb b 10 (free 0 0 (omega arith))))
    ∙ fold-piece piece (longer cut (b ∷ [])) (λ k d within. free (suc k) d (omega (arith, within)))
    ∙ ap (λ (rest : List ℕ). let c : Cut = record { lines = cut.lines; rest = rest } in c) (append_assoc cut.rest (b ∷ []) piece)

cut-piece : (text piece : List ℕ) → All (λ b. b ≢ 10) piece → cut_of (text ++ piece) ≡ longer (cut_of text) piece
cut-piece text piece free = fold-append cut_with (record { lines = []; rest = [] }) text piece ∙ fold-piece piece (cut_of text) free

cut-feed : (text : List ℕ) → cut_of (text ++ 10 ∷ []) ≡ ended (cut_of text)
cut-feed text = fold-append cut_with (record { lines = []; rest = [] }) text (10 ∷ [])

-- cutting the first part beforehand changes nothing
take_twice : (n : ℕ) (xs ys : List ℕ) → take n (take n xs ++ ys) ≡ take n (xs ++ ys)
take_twice zero xs ys = refl
take_twice (suc n) [] ys = refl
take_twice (suc n) (x ∷ xs) ys = ap (λ (w : List ℕ). x ∷ w) (take_twice n xs ys)

-- a piece of a line is kept
pub tallied-piece : (text piece head new : List ℕ) (counts : Counts) → All (λ b. b ≢ 10) piece → new ≡ head_of (head ++ piece)
    → IsTallied text counts head → IsTallied (text ++ piece) counts new
tallied-piece text piece head new counts free is was =
    let cut = cut-piece text piece free in
    record {
      counted = rw cut was.counted;
      kept = is ∙ ap (λ (h : List ℕ). head_of (h ++ piece)) was.kept ∙ take_twice 64 (cut_of text).rest piece
          ∙ ap (λ (c : Cut). head_of c.rest) (sym cut);
    }

-- a line that ends is counted
pub tallied-line : (text head : List ℕ) (old new : Counts) → ((lines : List (List ℕ)) → AreLineCounts lines old → AreLineCounts (lines ++ head ∷ []) new)
    → IsTallied text old head → IsTallied (text ++ 10 ∷ []) new []
tallied-line text head old new count was =
    let cut = cut-feed text in
    let counted = count (map head_of (cut_of text).lines) was.counted in
    let same : map head_of (cut_of text).lines ++ head ∷ [] ≡ map head_of (cut_of (text ++ 10 ∷ [])).lines =
    ap (λ (h : List ℕ). map head_of (cut_of text).lines ++ h ∷ []) was.kept
    ∙ sym (map-append head_of (cut_of text).lines ((cut_of text).rest ∷ []))
    ∙ ap (λ (c : Cut). map head_of c.lines) (sym cut) in
    record {
      counted = rw (sym same) counted;
      kept = ap (λ (c : Cut). head_of c.rest) (sym cut);
    }
