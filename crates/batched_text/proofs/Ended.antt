-- The report at its end, and what was written when a fault comes.
use Rattle.std.proofs.Common.{◌≡◌, ◌≤◌, ◌+◌, ◌++◌, ℕ, List, [], ◌∷◌, Option, Some, None, length, refl, ap, sym, ◌∙◌, subst, arith, append_assoc}
use Rattle.std.specs.Io.KnownBytes.{Appends, prepend_known}
use Rattle.std.proofs.lemmas.List.{append-nil, length-append}
use Rattle.line_io.specs.Known.{AppendsFront, MovesOut}
use Rattle.line_io.proofs.Written.{appends_then}
use Rattle.log_text.specs.Statement.{Sentence}
use Rattle.sequencer.specs.Catalog.{Names}
use Rattle.sequencer.specs.Log.{Accepted}
use Rattle.sequencer.specs.Refusal.{refusal}
use Rattle.sequencer.specs.declared.refused.Refused.{Refused}
use Rattle.report.specs.Report.{ParsedLine, accepted, faulty, the_heading, read, statement_if}
use Rattle.bohm_base.specs.declared.collecting.LineOutcome.{LineOutcome}
use Rattle.bohm_base.specs.Collecting.{Collects, IsLogOf, line_outcome, log_text, outcome_unless, places_in, places_of}
use Rattle.bohm_base.proofs.Beginnings.{rest_lost}
use Rattle.bohm_base.proofs.Reached.{report_begun, appends_nothing}
use Rattle.bohm_base.specs.Pending.{HasBegunReport, HasReport}
use Rattle.bohm_base.proofs.LinesRead.{collect_end}
use Rattle.bohm_base.proofs.Logs.{report_is}
use Rattle.engine.specs.Engine.{Run}
use Rattle.batched_text.specs.Batching.{AreReadFirst, Batched, BatchedUpTo, Gathers, IsBatched, IsCounted, IsFresh, IsLogOfText, Takes, lines_text}
use Rattle.batched_text.specs.declared.line_run.LineRun.{LineRun}
use Rattle.batched_text.proofs.Ends.{read_before, read_start}
use Rattle.bohm_base.proofs.Beginnings.{parts}
use Rattle.batched_text.proofs.Sofar.{places-append}

-- a line has as many places as it adds statements
places_if : (names : Names) (sentence : Sentence) (o : Option Refused) → places_of (outcome_unless o) ≡ length (statement_if names sentence o)
places_if names sentence None = refl
places_if names sentence (Some refused) = refl

one_if : (names : Names) (sentence : Sentence) (o : Option Refused) → length (statement_if names sentence o) ≤ 1
one_if names sentence None = omega arith
one_if names sentence (Some refused) = omega arith

places_are : (names : Names) (reading : ParsedLine) → places_of (line_outcome names reading) ≡ length (accepted names reading)
places_are names the_heading = refl
places_are names (read sentence) = places_if names sentence (refusal names sentence)
places_are names (faulty fault) = refl

pub counted_more : (old new : LineRun) (reading : ParsedLine) → IsCounted old → Takes reading old new → IsCounted new
counted_more old new reading counted takes =
    let log : Accepted = old.engine.log in
    let line : LineOutcome = line_outcome log.names reading in
    omega (
      arith,
      counted,
      takes.reported,
      ap places_in takes.waiting,
      places-append old.waiting.items (line ∷ []),
      places_are log.names reading,
      ap (λ (run : Run). length run.log.statements) takes.engine,
      length-append log.statements (accepted log.names reading),
    )

-- a line adds one statement at most
pub one_more : (names : Names) (reading : ParsedLine) → length (accepted names reading) ≤ 1
one_more names the_heading = omega arith
one_more names (read sentence) = one_if names sentence (refusal names sentence)
one_more names (faulty fault) = omega arith

-- at first nothing is read, and nothing is written
pub batched_start : (i o : Option (List ℕ)) (bytes : List ℕ) (batching : LineRun) → bytes ≡ [] → IsFresh batching
    → BatchedUpTo i (prepend_known bytes i) o o batching
batched_start None o bytes batching b first = tt
batched_start (Some xs) o bytes batching b first = (
  [],
  (
    appends_nothing o,
    record {
      earlier = [];
      leads = subst (λ (w : List ℕ). AreReadFirst xs (w ++ xs) []) (sym b) (read_start xs);
      reported = [];
      made = subst (λ (ls : List LineOutcome). IsLogOf [] batching.engine.log ls) (sym first.nobody)
          (subst (λ (log : Accepted). IsLogOf [] log []) (sym first.log) (record { names = refl; statements = refl; each = refl }));
      number = omega (arith, ap length first.nobody, first.lines);
      places = sym first.reported;
      text = first.nothing;
      whole = first.whole;
      within = omega (arith, first.reported);
    },
  ),
)

-- what was pending is written
pub batched_written : (i j o n m : Option (List ℕ)) (pending less : List ℕ) (log : Accepted) (done : ℕ) (waiting : List LineOutcome) (next : ℕ)
    → Batched i j o n pending log done waiting next → Appends n m pending → less ≡ [] → Batched i j o m less log done waiting next
batched_written None j o n m pending less log done waiting next so appends none = tt
batched_written (Some xs) None o n m pending less log done waiting next so appends none = absurd so
batched_written (Some xs) (Some ys) o n m pending less log done waiting next so appends none = (
  so.0 ++ pending,
  (
    appends_then o n m so.0 pending so.1.0 appends,
    subst (λ (w : List ℕ). IsBatched xs ys ((so.0 ++ pending) ++ w) log done waiting next) (sym none)
        (subst (λ (w : List ℕ). IsBatched xs ys w log done waiting next) (sym (append-nil (so.0 ++ pending))) so.1.1),
  ),
)

-- a front of what was pending is written, and the rest is lost
pub begun_cut : (i o n m : Option (List ℕ)) (pending less : List ℕ) → HasBegunReport i o n pending → AppendsFront n m pending → less ≡ [] → HasBegunReport i o m less
begun_cut i o n m pending less begun front none = report_begun i o n m pending less begun (rest_lost n m pending less front none)

-- at the end of the input, the waiting lines reported, the report is whole
module _ (o n : Option (List ℕ)) (batching : LineRun) (text : List ℕ)
    (told : text ≡ batching.pending.items ++ lines_text batching.engine.log (batching.lines + 1) batching.reported batching.waiting.items) where
  ended : (xs : List ℕ) → BatchedUpTo (Some xs) (Some []) o n batching → HasReport (Some xs) o n text
  ended xs so =
      let was = so.1.1 in
      let log : Accepted = batching.engine.log in
      let waiting : List LineOutcome = batching.waiting.items in
      let all : List LineOutcome = was.reported ++ waiting in
      let collects : Collects xs log all = collect_end (Some xs) (Some []) log all (was.earlier, (read_before xs [] was.earlier was.leads, was.made)) refl in
      let number : batching.lines + 1 ≡ 1 + length was.reported = omega (arith, was.number) in
      let place : batching.reported ≡ 0 + places_in was.reported = omega (arith, was.places) in (
        log_text log all,
        (
          report_is xs log all collects,
          (
            so.0,
            so.1.0,
            ap (λ (w : List ℕ). so.0 ++ w) told
                ∙ sym (append_assoc so.0 batching.pending.items (lines_text log (batching.lines + 1) batching.reported waiting))
                ∙ ap (λ (w : List ℕ). w ++ lines_text log (batching.lines + 1) batching.reported waiting) was.text
                ∙ ap (λ (k : ℕ). lines_text log 1 0 was.reported ++ lines_text log k batching.reported waiting) number
                ∙ ap (λ (p : ℕ). lines_text log 1 0 was.reported ++ lines_text log (1 + length was.reported) p waiting) place
                ∙ sym (parts log.statements log.names 1 0 was.reported waiting),
          ),
        ),
      )

  pub ended_batched : (i left : Option (List ℕ)) → Gathers i left o n batching → HasReport i o n text
  ended_batched None left gathers = tt
  ended_batched (Some xs) left gathers = ended xs gathers.1

-- and the log is that of the text
pub log_ended : (i left o n : Option (List ℕ)) (batching : LineRun) → Gathers i left o n batching → IsLogOfText i batching.engine.log
log_ended None left o n batching gathers = tt
log_ended (Some xs) left o n batching gathers =
    let was = gathers.1.1.1 in
    let all : List LineOutcome = was.reported ++ batching.waiting.items in
    (all, collect_end (Some xs) (Some []) batching.engine.log all (was.earlier, (read_before xs [] was.earlier was.leads, was.made)) refl)

-- what is whole has begun
pub begun_whole : (i o n : Option (List ℕ)) (pending : List ℕ) → HasReport i o n pending → HasBegunReport i o n pending
begun_whole None o n pending whole = tt
begun_whole (Some xs) o n pending whole =
    (whole.0, (whole.1.0, ([], subst (MovesOut o n whole.0) (sym (append-nil pending)) whole.1.1)))
