-- From a log that was run as far as the place before another to the text that it was read from, for its rows.
use Rattle.std.proofs.Common.{◌≡◌, ◌<◌, ◌≤◌, ◌+◌, ◌++◌, ◌∷◌, ◌⊎◌, ◌∙◌, [], ℕ, zero, suc, Bool, false, true, ltb, List, Option, Some, None, ap, arith, length, refl, sym, subst, inl, inr}
use Rattle.std.specs.Prelude.{Err, IfSome, Ok, OnOk, Result}
use Rattle.std.specs.Io.KnownBytes.{Appends}
use Rattle.std.proofs.lemmas.Bool.Decides.{nat_tests}
use Rattle.std.proofs.lemmas.List.{append-nil, length-append}
use Rattle.line_io.specs.Known.{AppendsFront}
use Rattle.line_io.specs.Lines.{lines_of}
use Rattle.log_text.specs.Statement.{Sentence}
use Rattle.log_text.specs.declared.version.Version.{Version}
use Rattle.model_base.specs.declared.statement.Statement.{Statement}
use Rattle.model_base.proofs.Replay.{by_cases}
use Rattle.sequencer.specs.Catalog.{Names, no_names}
use Rattle.sequencer.specs.Log.{Accepted}
use Rattle.sequencer.specs.Refusal.{refusal}
use Rattle.sequencer.specs.declared.refused.Refused.{Refused}
use Rattle.report.specs.Report.{AreParsedFrom, AreParsedLines, ParsedLine, accepted, faulty, log_of, names_after, read, statement_if, the_heading, version_with}
use Rattle.report.proofs.ReportLemmas.{log_of-append}
use Rattle.batched_text.specs.Reaching.{AreFewest, HasPlace, IsLogOfFront}
use Rattle.audit_text.specs.Picture.{EndsBefore, place_before}
use Rattle.audit_text.specs.RowsBefore.{IsLogBefore, IsRows, IsRunBefore, LacksTable}
use Rattle.audit_text.specs.RowsText.{HasNoTable, ListsRows}
use Rattle.audit_text.specs.declared.fault.WorkFault.{WorkFault}
use Rattle.audit_text.proofs.Earlier.{all-read}

-- the lines of which the first readings are
pub record AreFront (first : Bool) (version : Version) (lines : List (List ℕ)) (earlier later : List ParsedLine) : Type 0 where
  pub front : List (List ℕ)
  pub rest : List (List ℕ)
  pub parts : lines ≡ front ++ rest
  pub parsed : AreParsedFrom first version front earlier
  pub none : later ≡ [] → rest ≡ []

none-behind : (first : Bool) (version : Version) (lines : List (List ℕ)) (later : List ParsedLine) → AreParsedFrom first version lines later → later ≡ []
    → lines ≡ []
none-behind first version [] later are none = refl
none-behind first version (line ∷ lines) [] are none = absurd are
none-behind first version (line ∷ lines) (reading ∷ later) are none = cc

pub front-of : (first : Bool) (version : Version) (lines : List (List ℕ)) (earlier later : List ParsedLine)
    → AreParsedFrom first version lines (earlier ++ later) → AreFront first version lines earlier later
front-of first version lines [] later are = record {
  front = [];
  rest = lines;
  parts = refl;
  parsed = tt;
  none = none-behind first version lines later are;
}
front-of first version [] (reading ∷ earlier) later are = absurd are
front-of first version (line ∷ lines) (reading ∷ earlier) later are =
    let behind = front-of false (version_with version reading) lines earlier later are.1 in record {
      front = line ∷ behind.front;
      rest = behind.rest;
      parts = ap (λ (ls : List (List ℕ)). line ∷ ls) behind.parts;
      parsed = (are.0, behind.parsed);
      none = behind.none;
    }

-- a line adds one statement at most
one-if : (names : Names) (sentence : Sentence) (refused : Option Refused) → length (statement_if names sentence refused) ≤ 1
one-if names sentence None = omega arith
one-if names sentence (Some refused) = omega arith

one-accepted : (names : Names) (reading : ParsedLine) → length (accepted names reading) ≤ 1
one-accepted names the_heading = omega arith
one-accepted names (read sentence) = one-if names sentence (refusal names sentence)
one-accepted names (faulty fault) = omega arith

-- some lines, and the last of them
data Ends : List ParsedLine → Type 0 where
  nothing : Ends []
  behind : (front : List ParsedLine) (last : ParsedLine) → Ends (front ++ last ∷ [])

ends : (readings : List ParsedLine) → Ends readings
ends [] = nothing
ends (reading ∷ readings) = longer readings (ends readings)
  where
    longer : (readings : List ParsedLine) → Ends readings → Ends (reading ∷ readings)
    longer readings nothing = behind [] reading
    longer readings (behind front last) = behind (reading ∷ front) last

-- the fewest lines that make a log with a place make no place after it
fewest-most : (place : ℕ) (readings : List ParsedLine) → AreFewest (Some place) readings → length (log_of no_names readings) ≤ suc place
fewest-most place readings fewest = by_end readings (ends readings) fewest
  where
    by_end : (readings : List ParsedLine) → Ends readings → AreFewest (Some place) readings → length (log_of no_names readings) ≤ suc place
    by_end readings nothing fewest = omega arith
    by_end readings (behind front last) fewest =
        let before : length (log_of no_names front) ≤ place =
        by_cases (ltb place (length (log_of no_names front)))
        (λ has. absurd (fewest front last refl (grind (arith, nat_tests, has))))
        (λ lacks. grind (arith, nat_tests, lacks)) in
        let names = names_after no_names front in
        let one : length (accepted names last ++ []) ≤ 1 = rw (append-nil (accepted names last)) (one-accepted names last) in
        let long : length (log_of no_names (front ++ last ∷ [])) ≡ length (log_of no_names front) + length (accepted names last ++ []) =
        ap (λ (log : List Statement). length log) (log_of-append no_names front (last ∷ []))
        ∙ length-append (log_of no_names front) (accepted names last ++ []) in
        omega (arith, before, one, long)

-- the log of the first lines of a text, where it has the places before one
module _ (input : List ℕ) (log : Accepted) where
  of-front : (limit last : Option ℕ) → IsLogOfFront input last log → length log.statements ≡ place_before log.statements limit
      → (limit ≡ None → last ≡ None) → IsLogBefore input limit log
  of-front limit last so places none =
      let front = front-of true Version.One (lines_of input) so.earlier so.later so.read in record {
        front = front.front;
        rest = front.rest;
        lines = front.parts;
        readings = so.earlier;
        read = front.parsed;
        names = so.made.names;
        statements = so.made.statements;
        places = places;
        whole = λ is. front.none (all-taken last (none is) so.enough);
      }
    where
      all-taken : (last : Option ℕ) → last ≡ None → HasPlace last log.statements ⊎ (so.later ≡ []) → so.later ≡ []
      all-taken None is (inl has) = absurd has
      all-taken (Some place) is (inl has) = cc
      all-taken last is (inr none) = none

  log-before : (limit : Option ℕ) → IsRunBefore (Some input) limit log → place_before log.statements limit ≤ length log.statements
      → IsLogBefore input limit log
  log-before None so within = of-front None None so refl (λ is. refl)
  log-before (Some zero) empty within = record {
    front = [];
    rest = lines_of input;
    lines = refl;
    readings = [];
    read = tt;
    names = ap (λ (l : Accepted). l.names) empty;
    statements = ap (λ (l : Accepted). l.statements) empty;
    places = ap (λ (l : Accepted). length l.statements) empty;
    whole = λ is. cc;
  }
  log-before (Some (suc last)) so within =
      let most : length log.statements ≤ suc last = rw so.made.statements (fewest-most last so.earlier so.fewest) in
      of-front (Some (suc last)) (Some last) so (omega (arith, most, within)) (λ is. cc)

  -- all lines were taken, and the log ends before the place
  ends-before : (limit : Option ℕ) (places : ℕ) → IsRunBefore (Some input) limit log → places ≡ length log.statements
      → places < place_before log.statements limit → EndsBefore input limit places
  ends-before None places so all past = absurd (omega (arith, all, past))
  ends-before (Some zero) places empty all past = absurd (omega (arith, past))
  ends-before (Some (suc last)) places so all past =
      elim so.enough [
        | inl has ↦ absurd (omega (arith, has, all, past))
        | inr none ↦ (so.earlier, (all-read input (Some last) log so none, (sym (all ∙ ap length so.made.statements), past)))
      ]

-- so it is where the input is known
pub known-before : (i : Option (List ℕ)) (log : Accepted) (limit : Option ℕ) → IsRunBefore i limit log
    → place_before log.statements limit ≤ length log.statements → IfSome i (λ input. IsLogBefore input limit log)
known-before None log limit so within = tt
known-before (Some input) log limit so within = log-before input log limit so within

pub known-ends : (i : Option (List ℕ)) (log : Accepted) (limit : Option ℕ) (places : ℕ) → IsRunBefore i limit log → places ≡ length log.statements
    → places < place_before log.statements limit → IfSome i (λ input. EndsBefore input limit places)
known-ends None log limit places so all past = tt
known-ends (Some input) log limit places so all past = ends-before input log limit places so all past

-- the rows of the log are those of the text
pub listed : (result : Result (Unit {0}) WorkFault) (i old new : Option (List ℕ)) (log : Accepted) (name : Option (List ℕ)) (limit : Option ℕ)
    → IfSome i (λ input. IsLogBefore input limit log) → OnOk result ((text : List ℕ) × (ListsRows log name text × Appends old new text))
    → OnOk result (IfSome i (λ input. (text : List ℕ) × (IsRows input name limit text × Appends old new text)))
listed (Ok x) None old new log name limit so rows = tt
listed (Ok x) (Some input) old new log name limit so rows = (rows.0, ((log, (so, rows.1.0)), rows.1.1))
listed (Err fault) i old new log name limit so rows = tt

-- nothing was written, or a beginning of them
pub begun : (i old new : Option (List ℕ)) (log : Accepted) (name : Option (List ℕ)) (limit : Option ℕ)
    → IfSome i (λ input. IsLogBefore input limit log) → (new ≡ old) ⊎ ((text : List ℕ) × (ListsRows log name text × AppendsFront old new text))
    → IfSome i (λ input. (new ≡ old) ⊎ ((text : List ℕ) × (IsRows input name limit text × AppendsFront old new text)))
begun None old new log name limit so rows = tt
begun (Some input) old new log name limit so (inl same) = inl same
begun (Some input) old new log name limit so (inr rows) = inr (rows.0, ((log, (so, rows.1.0)), rows.1.1))

-- no table of the log has the name
pub lacks : (i : Option (List ℕ)) (log : Accepted) (name : Option (List ℕ)) (limit : Option ℕ) → IfSome i (λ input. IsLogBefore input limit log)
    → HasNoTable log.names.tables name → IfSome i (λ input. LacksTable input name limit)
lacks None log name limit so none = tt
lacks (Some input) log name limit so none = (log, (so, none))
