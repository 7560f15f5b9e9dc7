-- The lines of a text that is fed can be counted.
use Rattle.std.proofs.Common.{◌≡◌, ◌≤◌, ◌+◌, ◌++◌, ℕ, suc, List, [], ◌∷◌, length, eqb, refl, ap, arith}
use Rattle.std.specs.Prelude.{Bool, true, false, if◌then◌else◌}
use Rattle.std.specs.List.{onto_first}
use Rattle.std.proofs.lemmas.List.{length-append}
use Rattle.line_io.specs.Lines.{lines_of}
use Rattle.log_text.specs.declared.version.Version.{Version}
use Rattle.sequencer.specs.Catalog.{Names, no_names}
use Rattle.report.specs.Report.{AreParsedFrom, AreParsedLines, ParsedLine, names_with, version_with}
use Rattle.bohm_base.specs.Collecting.{line_outcomes}
use Rattle.fed_run.specs.Stands.{IsFed}
use Rattle.fed_run.specs.declared.fed.FedRun.{FedRun}

-- there are no more lines than bytes
onto-few : (b n : ℕ) (lines : List (List ℕ)) → length lines ≤ n → length (onto_first b lines) ≤ suc n
onto-few b n [] few = omega arith
onto-few b n (line ∷ lines) few = omega (arith, few)

lines-few : (bytes : List ℕ) → length (lines_of bytes) ≤ length bytes
lines-few [] = omega arith
lines-few (b ∷ bs) =
    elim (eqb b 10) as (λ (is : Bool). length (if is then [] ∷ lines_of bs else onto_first b (lines_of bs)) ≤ suc (length bs)) [
      | true ↦ omega (arith, lines-few bs)
      | false ↦ onto-few b (length bs) (lines_of bs) (lines-few bs)
    ]

-- as many lines are read as there are, and each becomes something
parsed-count : (first : Bool) (version : Version) (lines : List (List ℕ)) (readings : List ParsedLine) → AreParsedFrom first version lines readings
    → length readings ≡ length lines
parsed-count first version [] [] are = refl
parsed-count first version [] (reading ∷ readings) are = absurd are
parsed-count first version (line ∷ lines) [] are = absurd are
parsed-count first version (line ∷ lines) (reading ∷ readings) are = ap suc (parsed-count false (version_with version reading) lines readings are.1)

outcomes-count : (names : Names) (readings : List ParsedLine) → length (line_outcomes names readings) ≡ length readings
outcomes-count names [] = refl
outcomes-count names (reading ∷ readings) = ap suc (outcomes-count (names_with names reading) readings)

-- no more lines were reported or wait than bytes were given
pub lines_few : (run : FedRun) (given written : List ℕ) → IsFed run given written → run.run.lines + length run.run.waiting.items ≤ length given
lines_few run given written stands =
    let so = stands.reached [] (λ told. refl) in
    let taken : List ℕ = so.leads.taken ++ [] in
    let are : AreParsedLines (lines_of taken) (so.earlier ++ []) = so.leads.reads [] (stands.tail ++ []) refl [] tt in
    let count : length (so.earlier ++ []) ≡ length (lines_of taken) = parsed-count true Version.One (lines_of taken) (so.earlier ++ []) are in
    omega (
      arith,
      so.number,
      count,
      lines-few taken,
      ap length so.made.each,
      outcomes-count no_names so.earlier,
      length-append so.reported run.run.waiting.items,
      length-append so.earlier [],
      length-append so.leads.taken [],
      ap length so.leads.all,
      length-append given [],
      length-append so.leads.taken (stands.tail ++ []),
    )
