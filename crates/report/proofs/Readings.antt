-- Each line is read somehow.
use Rattle.std.proofs.Common.{◌≡◌, ℕ, Bool, true, false, List, [], ◌∷◌, Option, Some, None, refl, ap, sym, ◌∙◌, subst}
use Rattle.std.proofs.lemmas.Bool.{false≢true}
use Rattle.log_text.specs.Statement.{Sentence, ReadsIn}
use Rattle.log_text.specs.Fault.{fault_in}
use Rattle.line_words.specs.declared.fault.LineFault.{LineFault}
use Rattle.log_text.specs.declared.version.Version.{Version}
use Rattle.log_text.proofs.Grammar.{no_fault, one_statement}
use Rattle.line_io.specs.Lines.{lines_of}
use Rattle.report.specs.Report.{AreParsedFrom, AreParsedLines, IsParsedLine, IsReport, ParsedLine, the_heading, read, faulty, is_heading, report_of, version_with}

-- a line without a fault reads as a statement
abbrev pub IsTotal : Type 0
IsTotal = (version : Version) (line : List ℕ) → fault_in version line ≡ None → (sentence : Sentence) × ReadsIn version line sentence

module _ (total : IsTotal) (first : Bool) (version : Version) (line : List ℕ) where
  unheaded : is_heading first line ≡ false → (o : Option LineFault) → fault_in version line ≡ o → (r : ParsedLine) × IsParsedLine first version line r
  unheaded other None e = let s = total version line e in (read s.0, (other, s.1))
  unheaded other (Some f) e = (faulty f, (other, e))

  reading_if : (b : Bool) → is_heading first line ≡ b → (r : ParsedLine) × IsParsedLine first version line r
  reading_if true e = (the_heading, e)
  reading_if false e = unheaded e (fault_in version line) refl

pub readings_from : IsTotal → (first : Bool) (version : Version) (lines : List (List ℕ)) → (rs : List ParsedLine) × AreParsedFrom first version lines rs
readings_from total first version [] = ([], tt)
readings_from total first version (line ∷ lines) =
    let one = reading_if total first version line (is_heading first line) refl in
    let rest = readings_from total false (version_with version one.0) lines in
    (one.0 ∷ rest.0, (one.1, rest.1))

pub readings : IsTotal → (lines : List (List ℕ)) → (rs : List ParsedLine) × AreParsedLines lines rs
readings total lines = readings_from total true Version.One lines

-- a line is read in one way alone
module _ (first : Bool) (version : Version) (line : List ℕ) where
  one_reading : (r q : ParsedLine) → IsParsedLine first version line r → IsParsedLine first version line q → r ≡ q
  one_reading the_heading the_heading h k = refl
  one_reading the_heading (read t) h k = absurd (false≢true (sym k.0 ∙ h))
  one_reading the_heading (faulty e) h k = absurd (false≢true (sym k.0 ∙ h))
  one_reading (read s) the_heading h k = absurd (false≢true (sym h.0 ∙ k))
  one_reading (read s) (read t) h k = ap read (one_statement version line s t h.1 k.1)
  one_reading (read s) (faulty f) h k = let bad : None ≡ Some f = sym (no_fault version line s h.1) ∙ k.1 in cc
  one_reading (faulty f) the_heading h k = absurd (false≢true (sym h.0 ∙ k))
  one_reading (faulty f) (read t) h k = let bad : Some f ≡ None = sym h.1 ∙ no_fault version line t k.1 in cc
  one_reading (faulty f) (faulty e) h k = let same : Some f ≡ Some e = sym h.1 ∙ k.1 in cc

one_list : (first : Bool) (version : Version) (lines : List (List ℕ)) (rs qs : List ParsedLine)
    → AreParsedFrom first version lines rs → AreParsedFrom first version lines qs → rs ≡ qs
one_list first version [] [] [] h k = refl
one_list first version [] [] (q ∷ qs) h k = absurd k
one_list first version [] (r ∷ rs) qs h k = absurd h
one_list first version (l ∷ ls) [] qs h k = absurd h
one_list first version (l ∷ ls) (r ∷ rs) [] h k = absurd k
one_list first version (l ∷ ls) (r ∷ rs) (q ∷ qs) h k =
    let same : r ≡ q = one_reading first version l r q h.0 k.0 in
    let rest : rs ≡ qs =
    one_list false (version_with version r) ls rs qs h.1 (subst (λ (p : ParsedLine). AreParsedFrom false (version_with version p) ls qs) (sym same) k.1) in
    cc

-- each text has a report
pub some_report : IsTotal → (input : List ℕ) → (text : List ℕ) × IsReport input text
some_report total input = let rs = readings total (lines_of input) in (report_of rs.0, (rs.0, (rs.1, refl)))

-- and no other
pub one_report : (input text other : List ℕ) → IsReport input text → IsReport input other → text ≡ other
one_report input text other a b = a.1.1 ∙ ap report_of (one_list true Version.One (lines_of input) a.0 b.0 a.1.0 b.1.0) ∙ sym b.1.1
