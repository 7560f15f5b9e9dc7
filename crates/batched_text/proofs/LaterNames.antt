-- The names of later lines begin with those of earlier ones, and the version stays but at the heading, which is the first line of all.
use Rattle.std.proofs.Common.{◌≡◌, ◌⊎◌, ℕ, List, [], ◌∷◌, ◌++◌, Option, Some, None, length, refl, sym, ◌∙◌, subst, arith, inl, inr}
use Rattle.std.specs.Prelude.{◌==◌, false}
use Rattle.std.proofs.Math.Seq.{take-length}
use Rattle.std.proofs.lemmas.Bool.{ne_eqb}
use Rattle.log_text.specs.Statement.{Sentence}
use Rattle.log_text.specs.declared.version.Version.{Version}
use Rattle.sequencer.specs.Catalog.{Names, no_names}
use Rattle.sequencer.specs.Foretelling.{Begins}
use Rattle.sequencer.specs.Log.{Accepted}
use Rattle.sequencer.specs.Refusal.{refusal}
use Rattle.sequencer.specs.declared.refused.Refused.{Refused}
use Rattle.sequencer.proofs.Beginnings.{begins_further, begins_same, begins_with}
use Rattle.report.specs.Report.{AreParsedFrom, IsParsedLine, ParsedLine, faulty, the_heading, names_after, names_if, names_with, read, version_with}
use Rattle.report.proofs.ReportLemmas.{version-with}
use Rattle.bohm_base.specs.Collecting.{IsLogOf}
use Rattle.bohm_base.specs.declared.collecting.LineOutcome.{LineOutcome}

-- names begin with others in whatever version
pub begins_as : (names later : Names) (version : Version) → Begins names later → Begins names (record later { version = version })
begins_as names later version begins =
    record { users = begins.users; tables = begins.tables; owners = begins.owners; columns = begins.columns }

pub begins_in : (names later : Names) (version : Version) → Begins names later → Begins (record names { version = version }) later
begins_in names later version begins =
    record { users = begins.users; tables = begins.tables; owners = begins.owners; columns = begins.columns }

-- a line only names after those before it
begins_if : (names : Names) (sentence : Sentence) (refused : Option Refused) → Begins names (names_if names sentence refused)
begins_if names sentence None = begins_with names names sentence (begins_same names)
begins_if names sentence (Some refused) = begins_same names

pub begins_reading : (names : Names) (reading : ParsedLine) → Begins names (names_with names reading)
begins_reading names the_heading =
    record { users = take-length names.users; tables = take-length names.tables; owners = take-length names.owners; columns = take-length names.columns }
begins_reading names (read sentence) = begins_if names sentence (refusal names sentence)
begins_reading names (faulty fault) = begins_same names

-- and so do more lines
pub begins_after : (names : Names) (readings : List ParsedLine) → Begins names (names_after names readings)
begins_after names [] = begins_same names
begins_after names (reading ∷ readings) =
    begins_further names (names_with names reading) (names_after (names_with names reading) readings) (begins_reading names reading)
    (begins_after (names_with names reading) readings)

-- a line that isn't the first is no heading, and leaves the version
pub version-stays : (version : Version) (line : List ℕ) (reading : ParsedLine) → IsParsedLine false version line reading → version_with version reading ≡ version
version-stays version line the_heading is = absurd (cc)
version-stays version line (read sentence) is = refl
version-stays version line (faulty fault) is = refl

-- and so do more lines
pub version-later : (lines : List (List ℕ)) (readings : List ParsedLine) (names : Names) → AreParsedFrom false names.version lines readings
    → (names_after names readings).version ≡ names.version
version-later [] [] names are = refl
version-later [] (reading ∷ readings) names are = absurd are
version-later (line ∷ lines) [] names are = absurd are
version-later (line ∷ lines) (reading ∷ readings) names are =
    let same = version-with names reading in
    version-later lines readings (names_with names reading) (subst (λ (v : Version). AreParsedFrom false v lines readings) (sym same) are.1)
    ∙ same ∙ version-stays names.version line reading are.0

-- what is made of a line at least
pub some-first : {X : Type 0} (x : X) (xs : List X) → (length (x ∷ xs) == 0) ≡ false
some-first x xs = ne_eqb (length (x ∷ xs)) 0 (λ same. omega (arith, same))

none-front : {X : Type 0} (front back : List X) → front ++ back ≡ [] → front ≡ []
none-front [] back is = refl
none-front (x ∷ front) back is = absurd (cc)

-- later lines leave the version, or no line was reported yet
pub stays_or_none : (earlier later : List ParsedLine) (log : Accepted) (reported waiting : List LineOutcome) (lines : List (List ℕ))
    → IsLogOf earlier log (reported ++ waiting) → AreParsedFrom (length earlier == 0) (names_after no_names earlier).version lines later
    → ((names_after log.names later).version ≡ log.names.version) ⊎ (reported ≡ [])
stays_or_none [] later log reported waiting lines so are = inr (none-front reported waiting so.each)
stays_or_none (first ∷ earlier) later log reported waiting lines so are =
    let later_are = rw (some-first first earlier) at are in
    inl (version-later lines later log.names (subst (λ (n : Names). AreParsedFrom false n.version lines later) (sym so.names) later_are))
