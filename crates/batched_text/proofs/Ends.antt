-- The lines that were read before what is still to come, wherever after them the text ends.
use Rattle.std.proofs.Common.{◌≡◌, ◌≢◌, ◌<◌, ℕ, List, [], ◌∷◌, ◌++◌, eqb, length, refl, ap, sym, ◌∙◌, subst, arith, append_assoc, inl, inr}
use Rattle.std.proofs.lemmas.Bool.{cases_eq, cond-false, ne_eqb}
use Rattle.std.specs.Prelude.{◌==◌, Bool, false}
use Rattle.std.proofs.lemmas.List.{append-nil, length-append}
use Rattle.line_io.specs.Lines.{first_line, lines_of, other_lines}
use Rattle.line_io.proofs.LinesLaws.{lines_first}
use Rattle.log_text.specs.declared.version.Version.{Version}
use Rattle.sequencer.specs.Catalog.{Names, no_names}
use Rattle.report.specs.Report.{AreParsedFrom, AreParsedLines, IsParsedLine, ParsedLine, names_after, version_with}
use Rattle.report.proofs.ReportLemmas.{names_after-append, version-with}
use Rattle.bohm_base.specs.Collecting.{AreReadBefore}
use Rattle.batched_text.specs.Batching.{AreReadFirst}

-- a byte before the first LF
first-more : (b : ℕ) (bs : List ℕ) → b ≢ 10 → first_line (b ∷ bs) ≡ b ∷ first_line bs
first-more b bs ne = cond-false (eqb b 10) [] (b ∷ first_line bs) (ne_eqb b 10 ne)

others-more : (b : ℕ) (bs : List ℕ) → b ≢ 10 → other_lines (b ∷ bs) ≡ other_lines bs
others-more b bs ne = cond-false (eqb b 10) bs (other_lines bs) (ne_eqb b 10 ne)

none-front : (more end : List ℕ) → [] ≡ more ++ end → more ≡ []
none-front [] end is = refl
none-front (b ∷ more) end is = absurd (cc)

-- these bytes are the first line, with its LF if it has one, also where fewer bytes follow it
record CutsLine (bytes line : List ℕ) : Type 0 where
  whole : bytes ≡ line ++ other_lines bytes
  some : 0 < length bytes → 0 < length line
  first : (more end : List ℕ) → other_lines bytes ≡ more ++ end → first_line (line ++ more) ≡ first_line bytes
  others : (more end : List ℕ) → other_lines bytes ≡ more ++ end → other_lines (line ++ more) ≡ more

first-cut : (bytes : List ℕ) → (line : List ℕ) × CutsLine bytes line
first-cut [] = (
  [],
  record {
    whole = refl;
    some = λ some. some;
    first = λ more end is. ap first_line (none-front more end is);
    others = λ more end is. subst (λ (w : List ℕ). other_lines w ≡ w) (sym (none-front more end is)) refl;
  },
)
first-cut (b ∷ bs) =
    elim (cases_eq b 10) [
      | inl is ↦
          let cut : CutsLine (10 ∷ bs) (10 ∷ []) = record { whole = refl; some = λ some. omega arith; first = λ more end e. refl; others = λ more end e. refl } in
          (10 ∷ [], subst (λ (v : ℕ). CutsLine (v ∷ bs) (10 ∷ [])) (sym is) cut)
      | inr ne ↦
          let rest = first-cut bs in (
            b ∷ rest.0,
            record {
              whole = ap (λ (w : List ℕ). b ∷ w) (rest.1.whole ∙ ap (λ (w : List ℕ). rest.0 ++ w) (sym (others-more b bs ne)));
              some = λ some. omega arith;
              first = λ more end is.
                  first-more b (rest.0 ++ more) ne ∙ ap (λ (w : List ℕ). b ∷ w) (rest.1.first more end (sym (others-more b bs ne) ∙ is)) ∙ sym (first-more b bs ne);
              others = λ more end is. others-more b (rest.0 ++ more) ne ∙ rest.1.others more end (sym (others-more b bs ne) ∙ is);
            },
          )
    ]

-- a line is read so after these: it may be the heading where there are none, and it is read in the version of the names that they leave
abbrev pub IsReadAfter : List ParsedLine → List ℕ → ParsedLine → Type 0
IsReadAfter earlier line reading = IsParsedLine (length earlier == 0) (names_after no_names earlier).version line reading

-- the lines behind it are read in the version that it leaves
later-from : (earlier : List ParsedLine) (reading : ParsedLine) (lines : List (List ℕ)) (later : List ParsedLine)
    → AreParsedFrom (length (earlier ++ reading ∷ []) == 0) (names_after no_names (earlier ++ reading ∷ [])).version lines later
    → AreParsedFrom false (version_with (names_after no_names earlier).version reading) lines later
later-from earlier reading lines later rest =
    let more : (length (earlier ++ reading ∷ []) == 0) ≡ false =
    ne_eqb (length (earlier ++ reading ∷ [])) 0 (λ same. omega (arith, same, length-append earlier (reading ∷ []))) in
    let version : (names_after no_names (earlier ++ reading ∷ [])).version ≡ version_with (names_after no_names earlier).version reading =
    ap (λ (n : Names). n.version) (names_after-append no_names earlier (reading ∷ [])) ∙ version-with (names_after no_names earlier) reading in
    subst (λ (v : Version). AreParsedFrom false v lines later) version
    (subst (λ (b : Bool). AreParsedFrom b (names_after no_names (earlier ++ reading ∷ [])).version lines later) more rest)

pub leads_more : (input ys zs : List ℕ) (earlier : List ParsedLine) (reading : ParsedLine) → 0 < length ys → zs ≡ other_lines ys → IsReadAfter earlier (first_line ys) reading
    → AreReadBefore input ys earlier → AreReadBefore input zs (earlier ++ reading ∷ [])
leads_more input [] zs earlier reading some others reads leads = absurd (omega arith)
leads_more input (b ∷ bs) zs earlier reading some others reads leads = λ later rest.
    let before : Version = (names_after no_names earlier).version in
    let behind : AreParsedFrom false (version_with before reading) (lines_of (other_lines (b ∷ bs))) later =
    subst (λ (l : List ℕ). AreParsedFrom false (version_with before reading) (lines_of l) later) others (later-from earlier reading (lines_of zs) later rest) in
    let first : AreParsedFrom (length earlier == 0) before (lines_of (b ∷ bs)) (reading ∷ later) =
    subst (λ (ls : List (List ℕ)). AreParsedFrom (length earlier == 0) before ls (reading ∷ later)) (sym (lines_first b bs)) (reads, behind) in
    subst (AreParsedLines (lines_of input)) (sym (append_assoc earlier (reading ∷ []) later)) (leads (reading ∷ later) first)

-- at first no line is read
pub read_start : (input : List ℕ) → AreReadFirst input input []
read_start input = record { taken = []; all = refl; reads = λ more end is later reads. reads }

-- one more line
pub read_step : (input ys zs : List ℕ) (earlier : List ParsedLine) (reading : ParsedLine) → 0 < length ys → zs ≡ other_lines ys → IsReadAfter earlier (first_line ys) reading
    → AreReadFirst input ys earlier → AreReadFirst input zs (earlier ++ reading ∷ [])
read_step input ys zs earlier reading some others reads so =
    let cut = first-cut ys in
    let line : List ℕ = cut.0 in
    record {
      taken = so.taken ++ line;
      all = so.all
          ∙ ap (λ (w : List ℕ). so.taken ++ w) (cut.1.whole ∙ ap (λ (w : List ℕ). line ++ w) (sym others))
          ∙ sym (append_assoc so.taken line zs);
      reads = λ more end is.
          let ends : other_lines ys ≡ more ++ end = sym others ∙ is in
          let before : ys ≡ (line ++ more) ++ end =
          cut.1.whole ∙ ap (λ (w : List ℕ). line ++ w) ends ∙ sym (append_assoc line more end) in
          let step : AreReadBefore (so.taken ++ (line ++ more)) more (earlier ++ reading ∷ []) =
          leads_more (so.taken ++ (line ++ more)) (line ++ more) more earlier reading (omega (arith, cut.1.some some, length-append line more))
          (sym (cut.1.others more end ends)) (subst (λ (l : List ℕ). IsReadAfter earlier l reading) (sym (cut.1.first more end ends)) reads)
          (so.reads (line ++ more) end before) in
          subst (λ (w : List ℕ). AreReadBefore w more (earlier ++ reading ∷ [])) (sym (append_assoc so.taken line more)) step;
    }

-- where the text ends at its end
pub read_before : (input rest : List ℕ) (earlier : List ParsedLine) → AreReadFirst input rest earlier → AreReadBefore input rest earlier
read_before input rest earlier so =
    subst (λ (w : List ℕ). AreReadBefore w rest earlier) (sym so.all) (so.reads rest [] (sym (append-nil rest)))

-- where it ends earlier
pub read_less : (input rest part end : List ℕ) (earlier : List ParsedLine) (so : AreReadFirst input rest earlier) → rest ≡ part ++ end
    → AreReadFirst (so.taken ++ part) part earlier
read_less input rest part end earlier so is = record {
  taken = so.taken;
  all = refl;
  reads = λ more after ends. so.reads more (after ++ end) (is ∙ ap (λ (w : List ℕ). w ++ end) ends ∙ append_assoc more after end);
}
