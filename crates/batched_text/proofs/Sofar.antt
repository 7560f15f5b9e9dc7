-- The report so far of a text that is run in batches.
use Rattle.std.proofs.Common.{◌≡◌, ◌⊎◌, ◌≤◌, ◌+◌, ◌++◌, ℕ, zero, suc, List, [], ◌∷◌, Option, Some, None, length, refl, ap, sym, ◌∙◌, subst, arith, append_assoc, inl, inr}
use Rattle.std.specs.Prelude.{◌==◌, Bool}
use Rattle.std.proofs.lemmas.Bool.{ne_eqb}
use Rattle.std.proofs.lemmas.List.{append-nil, length-append}
use Rattle.model_base.specs.declared.statement.Statement.{Statement}
use Rattle.line_io.specs.Known.{HadSome, TookLine}
use Rattle.line_io.specs.Lines.{first_line, lines_of}
use Rattle.sequencer.specs.Catalog.{Names, no_names}
use Rattle.sequencer.specs.Log.{Accepted}
use Rattle.sequencer.specs.Whole.{IsWhole}
use Rattle.report.specs.Report.{IsParsedLine, IsReport, ParsedLine, accepted, log_of, names_after, names_with}
use Rattle.report.proofs.ReportLemmas.{log_of-append, names_after-append}
use Rattle.report.proofs.Readings.{IsTotal, readings_from}
use Rattle.bohm_base.specs.declared.collecting.LineOutcome.{LineOutcome}
use Rattle.bohm_base.specs.Collecting.{IsLogOf, ReadsAs, line_outcome, line_outcomes, log_text, places_in, report_text, with_reading}
use Rattle.bohm_base.proofs.Logs.{log_step, report_is}
use Rattle.bohm_base.specs.Pending.{HasBegunReport}
use Rattle.batched_text.specs.Batching.{Batched, BatchedUpTo, Deals, ReportsLines, lines_text, next_line}
use Rattle.batched_text.specs.declared.line_run.LineRun.{LineRun}
use Rattle.batched_text.proofs.Ends.{IsReadAfter, read_before, read_step}
use Rattle.batched_text.proofs.LaterNames.{begins_after, stays_or_none}
use Rattle.bohm_base.proofs.Beginnings.{parts}
use Rattle.batched_text.proofs.Reports.{longer}

-- the log is one that was taken, and what was reported lies in it
pub record IsWithin (batching : LineRun) : Type 0 where
  pub whole : IsWhole batching.engine.log
  pub within : batching.reported ≤ length batching.engine.log.statements

pub places-append : (xs ys : List LineOutcome) → places_in (xs ++ ys) ≡ places_in xs + places_in ys
places-append [] ys = omega arith
places-append (x ∷ xs) ys = omega (arith, places-append xs ys)

outcomes-count : (names : Names) (readings : List ParsedLine) → length (line_outcomes names readings) ≡ length readings
outcomes-count names [] = refl
outcomes-count names (reading ∷ readings) = ap suc (outcomes-count (names_with names reading) readings)

-- the number of the next line is 1 where there are none before it
first-by : (next count : ℕ) → next ≡ count + 1 → (next == 1) ≡ (count == 0)
first-by next zero is = ap (λ (n : ℕ). n == 1) is
first-by next (suc count) is =
    ne_eqb next 1 (λ same. omega (arith, same, is)) ∙ sym (ne_eqb (suc count) 0 (λ same. omega (arith, same)))

line_outcome-append : (names : Names) (xs ys : List ParsedLine) → line_outcomes names (xs ++ ys) ≡ line_outcomes names xs ++ line_outcomes (names_after names xs) ys
line_outcome-append names [] ys = refl
line_outcome-append names (x ∷ xs) ys = ap (λ (lines : List LineOutcome). line_outcome names x ∷ lines) (line_outcome-append (names_with names x) xs ys)

-- more lines leave the version, or no line was reported yet
abbrev StaysOrNone : Accepted → List ParsedLine → List LineOutcome → Type 0
StaysOrNone log more reported = ((names_after log.names more).version ≡ log.names.version) ⊎ (reported ≡ [])

-- then the lines that were reported are given the same by a longer log
told-longer : (log : Accepted) (more : List ParsedLine) (reported : List LineOutcome) → IsWhole log → places_in reported ≤ length log.statements
    → StaysOrNone log more reported
    → report_text (log.statements ++ log_of log.names more) (names_after log.names more) 1 0 reported ≡ lines_text log 1 0 reported
told-longer log more reported whole less (inl same) =
    longer log whole (log_of log.names more) (names_after log.names more) (begins_after log.names more) same 1 0 reported (omega (arith, less))
told-longer log more reported whole less (inr none) =
    ap (report_text (log.statements ++ log_of log.names more) (names_after log.names more) 1 0) none ∙ ap (lines_text log 1 0) (sym none)

-- a line is the first where no line was read, and it is read in the version of the log
read-after : (earlier : List ParsedLine) (log : Accepted) (reported waiting : List LineOutcome) (next : ℕ) (line : List ℕ) (reading : ParsedLine)
    → IsLogOf earlier log (reported ++ waiting) → 1 + length reported + length waiting ≡ next
    → IsParsedLine (next == 1) log.names.version line reading → IsReadAfter earlier line reading
read-after earlier log reported waiting next line reading so number reads =
    let count : length reported + length waiting ≡ length earlier =
    sym (length-append reported waiting) ∙ ap length so.each ∙ outcomes-count no_names earlier in
    let first : (next == 1) ≡ (length earlier == 0) = first-by next (length earlier) (omega (arith, number, count)) in
    subst (λ (n : Names). IsParsedLine (length earlier == 0) n.version line reading) so.names
    (subst (λ (b : Bool). IsParsedLine b log.names.version line reading) first reads)

-- the whole report begins with that of the reported lines
module _ (log : Accepted) (earlier later : List ParsedLine) (reported waiting : List LineOutcome) (whole : IsWhole log) (so : IsLogOf earlier log (reported ++ waiting))
    (less : places_in reported ≤ length log.statements) (stays : StaysOrNone log later reported) where
  abbrev after : Accepted
  after = record { names = names_after no_names (earlier ++ later); statements = log_of no_names (earlier ++ later) }

  abbrev rest : List LineOutcome
  rest = waiting ++ line_outcomes (names_after no_names earlier) later

  all-lines : line_outcomes no_names (earlier ++ later) ≡ reported ++ rest
  all-lines =
      line_outcome-append no_names earlier later
      ∙ ap (λ (ls : List LineOutcome). ls ++ line_outcomes (names_after no_names earlier) later) (sym so.each)
      ∙ append_assoc reported waiting (line_outcomes (names_after no_names earlier) later)

  statements-are : after.statements ≡ log.statements ++ log_of log.names later
  statements-are =
      log_of-append no_names earlier later
      ∙ ap (λ (n : Names). log_of no_names earlier ++ log_of n later) (sym so.names)
      ∙ ap (λ (xs : List Statement). xs ++ log_of log.names later) (sym so.statements)

  names-are : after.names ≡ names_after log.names later
  names-are = names_after-append no_names earlier later ∙ ap (λ (n : Names). names_after n later) (sym so.names)

  abbrev behind : List ℕ
  behind = report_text after.statements after.names (1 + length reported) (0 + places_in reported) rest

  pub report-begins : log_text after (line_outcomes no_names (earlier ++ later)) ≡ lines_text log 1 0 reported ++ behind
  report-begins =
      ap (λ (ls : List LineOutcome). report_text after.statements after.names 1 0 ls) all-lines
      ∙ parts after.statements after.names 1 0 reported rest
      ∙ ap (λ t. t ++ behind)
      (ap (λ (xs : List Statement). report_text xs after.names 1 0 reported) statements-are
      ∙ ap (λ (n : Names). report_text (log.statements ++ log_of log.names later) n 1 0 reported) names-are
      ∙ told-longer log later reported whole less stays)

-- what was written, and then what is pending, is a beginning of the report
pub begun_batched : IsTotal → (i j o n : Option (List ℕ)) (pending : List ℕ) (log : Accepted) (done : ℕ) (waiting : List LineOutcome) (next : ℕ)
    → Batched i j o n pending log done waiting next → HasBegunReport i o n pending
begun_batched total None j o n pending log done waiting next so = tt
begun_batched total (Some xs) None o n pending log done waiting next so = absurd so
begun_batched total (Some xs) (Some ys) o n pending log done waiting next so =
    let is = so.1.1 in
    let later = readings_from total (length is.earlier == 0) (names_after no_names is.earlier).version (lines_of ys) in
    let all : List ParsedLine = is.earlier ++ later.0 in
    let few : places_in is.reported ≤ length log.statements = omega (arith, is.places, is.within) in
    let after : Accepted = record { names = names_after no_names all; statements = log_of no_names all } in
    let text : List ℕ = log_text after (line_outcomes no_names all) in
    let report : IsReport xs text = report_is xs after (line_outcomes no_names all) (all, (read_before xs ys is.earlier is.leads later.0 later.1, record { names = refl; statements = refl; each = refl })) in
    let rest : List ℕ = report_text after.statements after.names (1 + length is.reported) (0 + places_in is.reported) (waiting ++ line_outcomes (names_after no_names is.earlier) later.0) in
    let begins : text ≡ lines_text log 1 0 is.reported ++ rest = report-begins log is.earlier later.0 is.reported waiting is.whole is.made few
    (stays_or_none is.earlier later.0 log is.reported waiting (lines_of ys) is.made later.1) in
    (text, (report, (rest, (so.0, so.1.0, sym (append_assoc so.0 pending rest) ∙ ap (λ (w : List ℕ). w ++ rest) is.text ∙ sym begins))))

-- a line was taken, and waits
pub batched_taken : (i j k o n : Option (List ℕ)) (pending line : List ℕ) (reading : ParsedLine) (log new : Accepted) (done : ℕ) (waiting : List LineOutcome) (next : ℕ)
    → Batched i j o n pending log done waiting next → TookLine j k [] line × HadSome j → ReadsAs (next == 1) log.names.version line reading
    → new ≡ with_reading log reading → IsWhole new
    → done ≤ length new.statements → Batched i k o n pending new done (waiting ++ line_outcome log.names reading ∷ []) (next + 1)
batched_taken None j k o n pending line reading log new done waiting next so took reads is whole within = tt
batched_taken (Some xs) None k o n pending line reading log new done waiting next so took reads is whole within = absurd so
batched_taken (Some xs) (Some ys) None o n pending line reading log new done waiting next so took reads is whole within = absurd took.0
batched_taken (Some xs) (Some ys) (Some zs) o n pending line reading log new done waiting next so took reads is whole within =
    let was = so.1.1 in
    let one : LineOutcome = line_outcome log.names reading in
    let lines : List LineOutcome = was.reported ++ waiting in
    let made : IsLogOf (was.earlier ++ reading ∷ []) new (lines ++ one ∷ []) =
    log_step was.earlier reading log new lines (lines ++ one ∷ []) one was.made refl is refl in
    let few : places_in was.reported ≤ length log.statements = omega (arith, was.places, was.within) in
    let after : IsReadAfter was.earlier (first_line ys) reading =
    read-after was.earlier log was.reported waiting next (first_line ys) reading was.made was.number (reads (first_line ys) took.0.0) in
    let stays : lines_text new 1 0 was.reported ≡ lines_text log 1 0 was.reported =
    ap (λ (l : Accepted). lines_text l 1 0 was.reported) is
    ∙ ap (λ (ss : List Statement). report_text (log.statements ++ ss) (names_with log.names reading) 1 0 was.reported) (sym (append-nil (accepted log.names reading)))
    ∙ told-longer log (reading ∷ []) was.reported was.whole few
    (stays_or_none was.earlier (reading ∷ []) log was.reported waiting (first_line ys ∷ []) was.made (after, tt)) in (
      so.0,
      (
        so.1.0,
        record {
          earlier = was.earlier ++ reading ∷ [];
          leads = read_step xs ys zs was.earlier reading took.1 took.0.1 after was.leads;
          reported = was.reported;
          made = subst (λ (ls : List LineOutcome). IsLogOf (was.earlier ++ reading ∷ []) new ls) (append_assoc was.reported waiting (one ∷ [])) made;
          number = omega (arith, was.number, length-append waiting (one ∷ []));
          places = was.places;
          text = was.text ∙ sym stays;
          whole = whole;
          within = within;
        },
      ),
    )

-- the first of the lines that waited are reported after what was pending
pub batched_reported : (i j o n : Option (List ℕ)) (log : Accepted) (done_old done_new : ℕ) (lines waiting : List LineOutcome) (next : ℕ) (pending_old pending_new : List ℕ)
    → Batched i j o n pending_old log done_old lines next → ReportsLines log done_old done_new lines waiting next pending_old pending_new
    → done_new ≤ length log.statements → Batched i j o n pending_new log done_new waiting next
batched_reported None j o n log done_old done_new lines waiting next pending_old pending_new so put within = tt
batched_reported (Some xs) None o n log done_old done_new lines waiting next pending_old pending_new so put within = absurd so
batched_reported (Some xs) (Some ys) o n log done_old done_new lines waiting next pending_old pending_new so put within =
    let was = so.1.1 in
    let sorted : was.reported ++ lines ≡ (was.reported ++ put.out) ++ waiting =
    ap (λ (ls : List LineOutcome). was.reported ++ ls) put.all ∙ sym (append_assoc was.reported put.out waiting) in
    let here : put.first ≡ 1 + length was.reported = omega (arith, put.number, was.number) in
    let place : done_old ≡ 0 + places_in was.reported = omega (arith, was.places) in
    let told : so.0 ++ pending_new ≡ lines_text log 1 0 (was.reported ++ put.out) =
    ap (λ (w : List ℕ). so.0 ++ w) put.told
    ∙ sym (append_assoc so.0 pending_old (lines_text log put.first done_old put.out))
    ∙ ap (λ (w : List ℕ). w ++ lines_text log put.first done_old put.out) was.text
    ∙ ap (λ (m : ℕ). lines_text log 1 0 was.reported ++ lines_text log m done_old put.out) here
    ∙ ap (λ (p : ℕ). lines_text log 1 0 was.reported ++ lines_text log (1 + length was.reported) p put.out) place
    ∙ sym (parts log.statements log.names 1 0 was.reported put.out) in (
      so.0,
      (
        so.1.0,
        record {
          earlier = was.earlier;
          leads = was.leads;
          reported = was.reported ++ put.out;
          made = subst (λ (ls : List LineOutcome). IsLogOf was.earlier log ls) sorted was.made;
          number = omega (arith, was.number, length-append was.reported put.out, ap length put.all, length-append put.out waiting);
          places = omega (arith, places-append was.reported put.out, was.places, put.places);
          text = told;
          whole = was.whole;
          within = within;
        },
      ),
    )

-- one more line was dealt with
pub batched_step : (i j k o n : Option (List ℕ)) (line : List ℕ) (reading : ParsedLine) (old new : LineRun)
    → BatchedUpTo i j o n old → TookLine j k [] line × HadSome j → ReadsAs (next_line old == 1) old.engine.log.names.version line reading
    → Deals reading old new → old.reported ≤ length old.engine.log.statements
    → IsWithin new → BatchedUpTo i k o n new
batched_step i j k o n line reading old new so took reads deals before within =
    let log : Accepted = old.engine.log in
    let lines : List LineOutcome = old.waiting.items ++ line_outcome log.names reading ∷ [] in
    let longer : length new.engine.log.statements ≡ length log.statements + length (accepted log.names reading) =
    ap (λ (l : Accepted). length l.statements) deals.log ∙ length-append log.statements (accepted log.names reading) in
    let taken : Batched i k o n old.pending.items new.engine.log old.reported lines ((next_line old) + 1) =
    batched_taken i j k o n old.pending.items line reading log new.engine.log old.reported old.waiting.items (next_line old) so took reads deals.log within.whole
    (omega (arith, before, longer)) in
    batched_reported i k o n new.engine.log old.reported new.reported lines new.waiting.items (next_line new) old.pending.items new.pending.items
    (subst (λ (m : ℕ). Batched i k o n old.pending.items new.engine.log old.reported lines m) (sym deals.number) taken)
    deals.reports within.within

-- the lines that waited were reported, and no other was taken
pub batched_early : (i j o n : Option (List ℕ)) (old new : LineRun) → BatchedUpTo i j o n old → new.engine.log ≡ old.engine.log → next_line new ≡ next_line old
    → ReportsLines old.engine.log old.reported new.reported old.waiting.items new.waiting.items (next_line old) old.pending.items new.pending.items
    → IsWithin new → BatchedUpTo i j o n new
batched_early i j o n old new so log number reports within =
    let P : Accepted → Type 0 = λ l. Batched i j o n new.pending.items l new.reported new.waiting.items (next_line new) in
    let Q : ℕ → Type 0 = λ m. Batched i j o n new.pending.items old.engine.log new.reported new.waiting.items m in
    subst P (sym log) (subst Q (sym number)
    (batched_reported i j o n old.engine.log old.reported new.reported old.waiting.items new.waiting.items (next_line old) old.pending.items new.pending.items so reports
    (omega (arith, within.within, ap (λ (l : Accepted). length l.statements) log))))
