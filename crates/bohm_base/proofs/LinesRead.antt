-- The lines that were read, and what they became.
use Rattle.std.proofs.Common.{◌≡◌, ◌≢◌, ℕ, ◌<◌, ◌&&◌, Bool, true, false, List, [], ◌∷◌, ◌++◌, length, take, Option, Some, None, refl, ap, sym, ◌∙◌, subst, inl, inr, arith, append_assoc}
use Rattle.std.specs.Prelude.{◌==◌, Result, Ok, Err, IfErr, IfSome, OnOk, bytes_eq}
use Rattle.std.specs.Io.KnownBytes.{IsAtEnd, prepend_known}
use Rattle.std.proofs.lemmas.List.{append-nil, length-append, take_all, length-take-le}
use Rattle.std.proofs.lemmas.Bool.{cases_Bool, cases_lt, cond-true, lt-ltb, ne_eqb}
use Rattle.std.proofs.lemmas.Slice.Eq.{bytes_eq-Decides}
use Rattle.line_io.specs.Known.{HadSome, TookLine}
use Rattle.line_io.specs.Lines.{lines_of, first_line, other_lines}
use Rattle.line_io.proofs.LinesLaws.{lines_first}
use Rattle.log_text.specs.Statement.{IsInGrammar, Sentence, ReadsIn}
use Rattle.log_text.specs.Fault.{fault_in}
use Rattle.log_text.specs.Versions.{heading_line}
use Rattle.log_text.specs.declared.version.Version.{Version}
use Rattle.line_words.specs.declared.fault.LineFault.{LineFault}
use Rattle.sequencer.specs.Catalog.{Names, no_names}
use Rattle.sequencer.specs.Log.{Accepted, empty_log}
use Rattle.report.specs.Report.{AreParsedFrom, AreParsedLines, IsParsedLine, ParsedLine, the_heading, is_heading, names_after, version_with}
use Rattle.report.specs.Report as report
use Rattle.report.proofs.ReportLemmas.{names_after-append, version-with}
use Rattle.bohm_base.specs.declared.collecting.LineOutcome.{LineOutcome}
use Rattle.bohm_base.specs.Collecting.{Collects, CollectsSoFar, AreReadBefore, ReadsAs, line_outcome, reading_by, with_reading}
use Rattle.bohm_base.proofs.Logs.{length-line_outcomes, log_step}

too_long : (version : Version) (l : List ℕ) → 4096 < length l → fault_in version l ≡ Some LineFault.TooLong
too_long version l long = cond-true _ _ _ (lt-ltb 4096 (length l) long)

-- 4,097 bytes of a line are enough to find its fault
kept_fault : (version : Version) (l : List ℕ) → fault_in version (take 4097 l) ≡ fault_in version l
kept_fault version l =
    elim (cases_lt 4096 (length l)) [
      | inl long ↦ too_long version (take 4097 l) (omega (arith, length-take-le 4097 l (omega arith))) ∙ sym (too_long version l long)
      | inr short ↦ ap (fault_in version) (take_all 4097 l (omega arith))
    ]

-- and to read it
kept_reading : (version : Version) (line whole : List ℕ) (sentence : Sentence) → ReadsIn version line sentence → fault_in version line ≡ None → line ≡ take 4097 whole
    → ReadsIn version whole sentence
kept_reading version line whole sentence reads sound is =
    elim (cases_lt 4096 (length whole)) [
      | inl long ↦
          let bad : Some LineFault.TooLong ≡ None =
          sym (too_long version whole long) ∙ sym (kept_fault version whole) ∙ ap (fault_in version) (sym is) ∙ sound in cc
      | inr short ↦ subst (λ (l : List ℕ). ReadsIn version l sentence) (is ∙ take_all 4097 whole (omega arith)) reads
    ]

-- a long line isn't the heading
no_heading : (l : List ℕ) → 4096 < length l → bytes_eq l heading_line ≡ false
no_heading l long =
    elim (cases_Bool (bytes_eq l heading_line)) [
      | inl same ↦ absurd (let count = ap length ((bytes_eq-Decides l heading_line).0 same) in omega (arith, count))
      | inr other ↦ other
    ]

-- they are enough to tell whether it is the heading
kept_heading : (first : Bool) (line whole : List ℕ) → line ≡ take 4097 whole → is_heading first line ≡ is_heading first whole
kept_heading first line whole is =
    ap (λ (l : List ℕ). is_heading first l) is
    ∙ elim (cases_lt 4096 (length whole)) [
      | inl long ↦
          ap (λ (b : Bool). first && b)
          (no_heading (take 4097 whole) (omega (arith, length-take-le 4097 whole (omega arith))) ∙ sym (no_heading whole long))
      | inr short ↦ ap (is_heading first) (take_all 4097 whole (omega arith))
    ]

-- a line that was read was read as a statement of the grammar
pub in_grammar : {X E : Type 0} (version : Version) (line : List ℕ) (found : Result X E) (sentence : Sentence) → OnOk found (ReadsIn version line sentence)
    → OnOk found (IsInGrammar sentence)
in_grammar version line (Ok done) sentence reads = reads.grammar
in_grammar version line (Err fault) sentence reads = tt

-- the statement that 4,097 bytes of a line read as, no heading, is how the line is read
pub reads_statement : (first : Bool) (version : Version) (line : List ℕ) (sentence : Sentence) → is_heading first line ≡ false
    → ReadsIn version line sentence → fault_in version line ≡ None → ReadsAs first version line (report.read sentence)
reads_statement first version line sentence other reads sound = λ whole is.
    (sym (kept_heading first line whole is) ∙ other, kept_reading version line whole sentence reads sound is)

-- so is their fault
pub reads_faulty : (first : Bool) (version : Version) (line : List ℕ) (fault : LineFault) → is_heading first line ≡ false
    → fault_in version line ≡ Some fault → ReadsAs first version line (report.faulty fault)
reads_faulty first version line fault other found = λ whole is.
    (sym (kept_heading first line whole is) ∙ other, sym (kept_fault version whole) ∙ ap (fault_in version) (sym is) ∙ found)

-- what was found of them is how the line is read
pub reads_by : {X : Type 0} (first : Bool) (version : Version) (line : List ℕ) (found : Result X LineFault) (sentence : Sentence) → is_heading first line ≡ false
    → OnOk found (ReadsIn version line sentence) → OnOk found (fault_in version line ≡ None)
    → IfErr found (λ fault. fault ≢ LineFault.NoMemory → fault_in version line ≡ Some fault) → found ≢ Err LineFault.NoMemory
    → ReadsAs first version line (reading_by found sentence)
reads_by first version line (Ok done) sentence other reads sound faulty told = reads_statement first version line sentence other reads sound
reads_by {X} first version line (Err fault) sentence other reads sound faulty told =
    reads_faulty first version line fault other (faulty (λ same. told (let P : LineFault → Result X LineFault = λ f. Err f in ap P same)))

-- 4,097 bytes of a line that are the heading are the whole line
pub reads_heading : (first : Bool) (version : Version) (line : List ℕ) → is_heading first line ≡ true → ReadsAs first version line the_heading
reads_heading first version line headed = λ whole is. sym (kept_heading first line whole is) ∙ headed

-- at first no line is read
pub collect_start : (i : Option (List ℕ)) (bytes : List ℕ) → bytes ≡ [] → CollectsSoFar i (prepend_known bytes i) empty_log []
collect_start None bytes none = tt
collect_start (Some xs) bytes none =
    ([], (subst (λ (w : List ℕ). AreReadBefore xs (w ++ xs) []) (sym none) (λ later reads. reads), record { names = refl; statements = refl; each = refl }))

-- the version that the lines leave, and one more
version-next : (earlier : List ParsedLine) (reading : ParsedLine)
    → (names_after no_names (earlier ++ reading ∷ [])).version ≡ version_with (names_after no_names earlier).version reading
version-next earlier reading =
    ap (λ (names : Names). names.version) (names_after-append no_names earlier (reading ∷ []))
    ∙ version-with (names_after no_names earlier) reading

-- no line after another is the first
not-first : (earlier : List ParsedLine) (reading : ParsedLine) → (length (earlier ++ reading ∷ []) == 0) ≡ false
not-first earlier reading =
    ne_eqb (length (earlier ++ reading ∷ [])) 0 (λ none. omega (arith, none, length-append earlier (reading ∷ [])))

lead_step : (input ys zs : List ℕ) (earlier : List ParsedLine) (reading : ParsedLine) → 0 < length ys → zs ≡ other_lines ys
    → IsParsedLine (length earlier == 0) (names_after no_names earlier).version (first_line ys) reading
    → AreReadBefore input ys earlier → AreReadBefore input zs (earlier ++ reading ∷ [])
lead_step input [] zs earlier _ some others reads leads = absurd (omega arith)
lead_step input (b ∷ bs) zs earlier reading some others reads leads = λ later rest.
    let version : Version = (names_after no_names earlier).version in
    let next : AreParsedFrom false (version_with version reading) (lines_of (other_lines (b ∷ bs))) later =
    subst (λ (l : List ℕ). AreParsedFrom false (version_with version reading) (lines_of l) later) others
    (subst (λ (v : Version). AreParsedFrom false v (lines_of zs) later) (version-next earlier reading)
    (subst (λ (f : Bool). AreParsedFrom f (names_after no_names (earlier ++ reading ∷ [])).version (lines_of zs) later) (not-first earlier reading) rest)) in
    let first : AreParsedFrom (length earlier == 0) version (lines_of (b ∷ bs)) (reading ∷ later) =
    subst (λ (ls : List (List ℕ)). AreParsedFrom (length earlier == 0) version ls (reading ∷ later)) (sym (lines_first b bs)) (reads, next) in
    subst (AreParsedLines (lines_of input)) (sym (append_assoc earlier (reading ∷ []) later)) (leads (reading ∷ later) first)

-- one more line
pub collect_step : (i j k : Option (List ℕ)) (log new : Accepted) (lines more : List LineOutcome) (known : List ℕ) (first : Bool) (line : LineOutcome)
    → CollectsSoFar i j log lines → TookLine j k [] known × HadSome j → first ≡ (length lines == 0)
    → ((reading : ParsedLine) × (ReadsAs first log.names.version known reading × ((line ≡ line_outcome log.names reading) × (new ≡ with_reading log reading))))
    → more ≡ lines ++ line ∷ [] → CollectsSoFar i k new more
collect_step None j k log new lines more known first line so took begins dealt is = tt
collect_step (Some xs) None k log new lines more known first line so took begins dealt is = absurd so
collect_step (Some xs) (Some ys) None log new lines more known first line so took begins dealt is = absurd took.0
collect_step (Some xs) (Some ys) (Some zs) log new lines more known first line so took begins dealt is =
    let earlier : List ParsedLine = so.0 in
    let reading : ParsedLine = dealt.0 in
    let count : length lines ≡ length earlier = ap length so.1.1.each ∙ length-line_outcomes no_names earlier in
    let first-is : first ≡ (length earlier == 0) = begins ∙ ap (λ (n : ℕ). n == 0) count in
    let version : log.names.version ≡ (names_after no_names earlier).version = ap (λ (names : Names). names.version) so.1.1.names in
    let reads : IsParsedLine (length earlier == 0) (names_after no_names earlier).version (first_line ys) reading =
    subst (λ (v : Version). IsParsedLine (length earlier == 0) v (first_line ys) reading) version
    (subst (λ (f : Bool). IsParsedLine f log.names.version (first_line ys) reading) first-is (dealt.1.0 (first_line ys) took.0.0)) in (
      earlier ++ reading ∷ [],
      (
        lead_step xs ys zs earlier reading took.1 took.0.1 reads so.1.0,
        log_step earlier reading log new lines more line so.1.1 dealt.1.1.0 dealt.1.1.1 is,
      ),
    )

-- at the end of the input all lines are read
pub collect_end : (i j : Option (List ℕ)) (log : Accepted) (lines : List LineOutcome) → CollectsSoFar i j log lines → IsAtEnd j
    → IfSome i (λ input. Collects input log lines)
collect_end None j log lines so end = tt
collect_end (Some xs) None log lines so end = absurd so
collect_end (Some xs) (Some ys) log lines so end =
    let earlier : List ParsedLine = so.0 in
    let first : Bool = length earlier == 0 in
    let version : Version = (names_after no_names earlier).version in
    let none : AreParsedFrom first version (lines_of ys) [] = subst (λ (l : List ℕ). AreParsedFrom first version (lines_of l) []) (sym end) tt in
    (so.0, (subst (AreParsedLines (lines_of xs)) (append-nil so.0) (so.1.0 [] none), so.1.1))
