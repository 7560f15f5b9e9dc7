-- Lines of a text that were read before others.
use Rattle.std.proofs.Common.{◌≡◌, ◌++◌, ◌<◌, ◌∷◌, ℕ, false, List, [], Option, ap, arith, length, subst, sym}
use Rattle.std.proofs.lemmas.List.{append-nil}
use Rattle.line_io.specs.Lines.{lines_of}
use Rattle.sequencer.specs.Catalog.{Names, no_names}
use Rattle.sequencer.specs.Log.{Accepted}
use Rattle.log_text.specs.declared.version.Version.{Version}
use Rattle.report.specs.Report.{AreParsedFrom, AreParsedLines, ParsedLine, log_of, names_after, names_with}
use Rattle.report.proofs.ReportLemmas.{version-with}
use Rattle.batched_text.proofs.LaterNames.{version-later}
use Rattle.batched_text.specs.Reaching.{IsLogOfFront}

-- where all lines were taken, they are those of the input
pub all-read : (input : List ℕ) (limit : Option ℕ) (log : Accepted) (so : IsLogOfFront input limit log) → so.later ≡ [] → AreParsedLines (lines_of input) so.earlier
all-read input limit log so none =
    subst (AreParsedLines (lines_of input)) (append-nil so.earlier)
    (subst (λ (later : List ParsedLine). AreParsedLines (lines_of input) (so.earlier ++ later)) none so.read)

-- after some lines that have been read, the rest is read by the names after them
parsed-behind : (names : Names) (lines : List (List ℕ)) (earlier later : List ParsedLine) → AreParsedFrom false names.version lines (earlier ++ later)
    → (rest : List (List ℕ)) × AreParsedFrom false (names_after names earlier).version rest later
parsed-behind names lines [] later are = (lines, are)
parsed-behind names [] (reading ∷ earlier) later are = absurd are
parsed-behind names (line ∷ lines) (reading ∷ earlier) later are =
    parsed-behind (names_with names reading) lines earlier later
    (subst (λ (v : Version). AreParsedFrom false v lines (earlier ++ later)) (sym (version-with names reading)) are.1)

-- where a line has been read, later ones leave the version
version-kept : (lines : List (List ℕ)) (first : ParsedLine) (earlier later : List ParsedLine) → AreParsedLines lines (first ∷ earlier ++ later)
    → (names_after (names_after no_names (first ∷ earlier)) later).version ≡ (names_after no_names (first ∷ earlier)).version
version-kept [] first earlier later are = absurd are
version-kept (line ∷ lines) first earlier later are =
    let behind = parsed-behind (names_with no_names first) lines earlier later
    (subst (λ (v : Version). AreParsedFrom false v lines (earlier ++ later)) (sym (version-with no_names first)) are.1) in
    version-later behind.0 later (names_after no_names (first ∷ earlier)) behind.1

pub version-same : (lines : List (List ℕ)) (earlier later : List ParsedLine) (log : Accepted) (place : ℕ) → AreParsedLines lines (earlier ++ later)
    → log.names ≡ names_after no_names earlier → log.statements ≡ log_of no_names earlier → place < length log.statements
    → (names_after log.names later).version ≡ log.names.version
version-same lines [] later log place are names statements low = absurd (omega (arith, low, ap length statements))
version-same lines (first ∷ earlier) later log place are names statements low =
    rw names (version-kept lines first earlier later are)
