-- The lines of a text are read in one way alone.
use Rattle.std.proofs.Common.{◌≡◌, ℕ, Bool, List, [], ◌∷◌, false, Some, None, refl, ap, sym, ◌∙◌, subst}
use Rattle.std.proofs.lemmas.Bool.{false≢true}
use Rattle.log_text.specs.declared.version.Version.{Version}
use Rattle.log_text.proofs.Grammar.{no_fault, one_statement}
use Rattle.report.specs.Report.{AreParsedFrom, IsParsedLine, ParsedLine, faulty, read, the_heading, version_with}

-- a line is read in one way alone
module _ (first : Bool) (version : Version) (line : List ℕ) where
  one_reading : (r q : ParsedLine) → IsParsedLine first version line r → IsParsedLine first version line q → r ≡ q
  one_reading the_heading the_heading h k = refl
  one_reading the_heading (read t) h k = absurd (false≢true (sym k.0 ∙ h))
  one_reading the_heading (faulty e) h k = absurd (false≢true (sym k.0 ∙ h))
  one_reading (read s) the_heading h k = absurd (false≢true (sym h.0 ∙ k))
  one_reading (read s) (read t) h k = ap read (one_statement version line s t h.1 k.1)
  one_reading (read s) (faulty f) h k = let bad : None ≡ Some f = sym (no_fault version line s h.1) ∙ k.1 in cc
  one_reading (faulty f) the_heading h k = absurd (false≢true (sym h.0 ∙ k))
  one_reading (faulty f) (read t) h k = let bad : Some f ≡ None = sym h.1 ∙ no_fault version line t k.1 in cc
  one_reading (faulty f) (faulty e) h k = let same : Some f ≡ Some e = sym h.1 ∙ k.1 in cc

pub one_list : (first : Bool) (version : Version) (lines : List (List ℕ)) (rs qs : List ParsedLine)
    → AreParsedFrom first version lines rs → AreParsedFrom first version lines qs → rs ≡ qs
one_list first version [] [] [] h k = refl
one_list first version [] [] (q ∷ qs) h k = absurd k
one_list first version [] (r ∷ rs) qs h k = absurd h
one_list first version (l ∷ ls) [] qs h k = absurd h
one_list first version (l ∷ ls) (r ∷ rs) [] h k = absurd k
one_list first version (l ∷ ls) (r ∷ rs) (q ∷ qs) h k =
    let same : r ≡ q = one_reading first version l r q h.0 k.0 in
    let rest : rs ≡ qs =
    one_list false (version_with version r) ls rs qs h.1 (subst (λ (p : ParsedLine). AreParsedFrom false (version_with version p) ls qs) (sym same) k.1) in
    cc
