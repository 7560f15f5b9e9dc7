-- A run that is fed piece by piece.
use Rattle.std.proofs.Common.{◌≡◌, ◌≤◌, ◌<◌, ◌+◌, ◌^◌, ◌++◌, ℕ, true, false, List, [], ◌∷◌, Some, length, take, drop, refl, ap, sym, ◌∙◌, subst, arith, append_assoc}
use Rattle.std.proofs.lemmas.List.{append-nil, length-append, length-take-le, take_all}
use Rattle.std.specs.Prelude.{◌==◌, Err, Ok, OnErr, OnOk, Result}
use Rattle.log_text.proofs.Total.{total_in}
use Rattle.line_io.specs.Lines.{HasLine, first_line, lines_of, other_lines}
use Rattle.sequencer.specs.Log.{Accepted, empty_log}
use Rattle.report.specs.Report.{AreParsedLines, IsReport, ParsedLine, accepted}
use Rattle.bohm_base.specs.Collecting.{IsLogOf, ReadsAs, line_outcome, places_in, with_reading}
use Rattle.bohm_base.specs.declared.collecting.LineOutcome.{LineOutcome}
use Rattle.bohm_base.proofs.Logs.{report_is}
use Rattle.batched_text.specs.Batching.{Batched, IsBatched, IsCounted, HasRoomForLine, IsFresh, IsSteady, KeepsLines, ReportsLines, Takes, TakesNothing, lines_text, next_line}
use Rattle.batched_text.specs.History.{IsCutBy, IsKeptBy, IsRanTo, last_places, plan_in_order}
use Rattle.batched_text.specs.Sweeping.{IsSwept}
use Rattle.batched_text.proofs.Ends.{read_before, read_start}
use Rattle.batched_text.proofs.Cutting.{steady_taken}
use Rattle.batched_text.proofs.Histories.{kept_below, kept_first}
use Rattle.batched_text.proofs.Sofar.{batched_reported, batched_taken, begun_batched}
use Rattle.batched_text.specs.declared.history.Plan.{Plan}
use Rattle.batched_text.specs.declared.line_run.LineRun.{LineRun}
use Rattle.engine.specs.Engine.{Run}
use Rattle.fed_run.specs.Stands.{BeginsReport, IsFed, IsRunTo, MayCome, unsent}
use Rattle.fed_run.specs.declared.fed.FedRun.{FedRun}
use Rattle.fed_run.proofs.Lines.{cut_at, first_through, kept_line, no_line, no_line-append, nothing_begun, other_through}

-- what was written is known, as there is no writer
from_batched : (i j pending : List ℕ) (log : Accepted) (done : ℕ) (waiting : List LineOutcome) (next : ℕ)
    → Batched (Some i) (Some j) (Some []) (Some []) pending log done waiting next → IsBatched i j pending log done waiting next
from_batched i j pending log done waiting next so =
    subst (λ (front : List ℕ). IsBatched i j (front ++ pending) log done waiting next) (sym so.1.0) so.1.1

to_batched : (i j pending : List ℕ) (log : Accepted) (done : ℕ) (waiting : List LineOutcome) (next : ℕ)
    → IsBatched i j pending log done waiting next → Batched (Some i) (Some j) (Some []) (Some []) pending log done waiting next
to_batched i j pending log done waiting next is = ([], (refl, is))

-- what was reported begins the report of the whole
begins : (i j pending : List ℕ) (run : LineRun) → IsRunTo i j pending run → BeginsReport i pending
begins i j pending run is =
    let begun = begun_batched total_in (Some i) (Some j) (Some []) (Some []) pending _ _ _ _ (to_batched i j pending _ _ _ _ is) in
    let moved = begun.1.1.1 in
    let rest : List ℕ = begun.1.1.0 in
    let whole : pending ++ rest ≡ begun.0 = ap (λ (front : List ℕ). front ++ (pending ++ rest)) moved.1 ∙ moved.2 in
    (rest, subst (IsReport i) (sym whole) begun.1.0)

-- what is the same keeps log and lines
pub keeps_same : (old new : LineRun) → new ≡ old → KeepsLines old new
keeps_same old new same = record {
  log = ap (λ (run : LineRun). run.engine.log) same;
  reported = ap (λ (run : LineRun). run.reported) same;
  waiting = ap (λ (run : LineRun). run.waiting.items) same;
  lines = ap (λ (run : LineRun). run.lines) same;
}

pub keeps_stays : (old new : LineRun) → TakesNothing old new → KeepsLines old new
keeps_stays old new stays = record {
  log = ap (λ (run : Run). run.log) stays.engine;
  reported = stays.reported;
  waiting = stays.waiting;
  lines = stays.lines;
}

-- what is the same but for the report is as steady
pub steady_same : (plan : Plan) (old new : LineRun) → new.engine ≡ old.engine → new.waiting.items ≡ old.waiting.items → new.lines ≡ old.lines
    → new.reported ≡ old.reported → IsSteady plan old → IsSteady plan new
steady_same plan old new engine waiting lines reported was = record {
  within = was.within;
  counted = omega (arith, was.counted, reported, ap places_in waiting, ap (λ (run : Run). length run.log.statements) engine);
  ran = subst (λ (n : ℕ). IsRanTo plan.cut n new.engine) (sym reported) (subst (IsRanTo plan.cut old.reported) (sym engine) was.ran);
  numbered = omega (arith, was.numbered, lines, ap length waiting);
  kept = subst (λ (n : ℕ). IsKeptBy plan.history n new.engine) (sym reported) (subst (IsKeptBy plan.history old.reported) (sym engine) was.kept);
  cut = subst (IsCutBy plan.cut plan.settings) (sym engine) was.cut;
  swept = subst (λ (run : Run). IsSwept run.store) (sym engine) was.swept;
  most = omega (arith, was.most, reported, ap (λ (run : Run). length run.log.statements) engine);
}

-- after a line was to be taken
module _ {E : Type 0} (plan : Plan) (old new : LineRun) (P : ParsedLine → Type 0) where
  pub steady_after : (result : Result (Unit {0}) E) → IsSteady plan old → HasRoomForLine plan old → next_line old < 2 ^ 64
      → OnOk result ((reading : ParsedLine) × (P reading × Takes reading old new)) → OnErr result (TakesNothing old new) → IsSteady plan new
  steady_after (Ok done) was room number took still = steady_taken plan old new took.0 was room number took.1.1
  steady_after (Err fault) was room number took still = steady_same plan old new still.engine still.waiting still.lines still.reported was

  pub pending_after : (result : Result (Unit {0}) E) → OnOk result ((reading : ParsedLine) × (P reading × Takes reading old new))
      → OnErr result (TakesNothing old new) → new.pending.items ≡ old.pending.items
  pending_after (Ok done) took still = took.1.1.pending
  pending_after (Err fault) took still = still.pending

-- before the first place any number of places may be kept
pub steady_keep : (old new : ℕ) (run : LineRun) → IsSteady (plan_in_order (last_places old)) run → length run.engine.log.statements ≡ 0
    → IsSteady (plan_in_order (last_places new)) run
steady_keep old new run was none =
    let reported : run.reported ≡ 0 = omega (arith, was.counted, none) in
    let dropped : run.engine.dropped ≡ 0 = omega (arith, kept_below (last_places old) run.reported run.engine was.kept, reported) in
    record {
      within = was.within;
      counted = was.counted;
      ran = was.ran;
      numbered = was.numbered;
      kept = kept_first (last_places new) run.reported run.engine dropped reported;
      cut = was.cut;
      swept = was.swept;
      most = was.most;
    }

-- so it is by equal parts
run_same : (i j p q : List ℕ) (old new : LineRun) → KeepsLines old new → p ≡ q → IsRunTo i j p old → IsRunTo i j q new
run_same i j p q old new keeps same is =
    subst (λ (x : List ℕ). IsRunTo i j x new) same
    (subst (λ (x : Accepted). IsBatched i j p x new.reported new.waiting.items (next_line new)) (sym keeps.log)
    (subst (λ (x : ℕ). IsBatched i j p old.engine.log x new.waiting.items (next_line new)) (sym keeps.reported)
    (subst (λ (x : List LineOutcome). IsBatched i j p old.engine.log old.reported x (next_line new)) (sym keeps.waiting)
    (subst (λ (x : ℕ). IsBatched i j p old.engine.log old.reported old.waiting.items x) (omega (arith, keeps.lines, ap length keeps.waiting)) is))))

-- a line was taken, and waits
run_taken : (i j k pending line : List ℕ) (reading : ParsedLine) (old new : LineRun)
    → line ≡ take 4097 (first_line j) → k ≡ other_lines j → 0 < length j → ReadsAs (next_line old == 1) old.engine.log.names.version line reading
    → Takes reading old new → IsRunTo i j pending old → IsRunTo i k pending new
run_taken i j k pending line reading old new first others some reads takes is =
    let log : Accepted = old.engine.log in
    let after : Accepted = new.engine.log in
    let lines : List LineOutcome = old.waiting.items ++ line_outcome log.names reading ∷ [] in
    let made : after ≡ with_reading log reading = ap (λ (run : Run). run.log) takes.engine in
    let longer : length after.statements ≡ length log.statements + length (accepted log.names reading) =
    ap (λ (l : Accepted). length l.statements) made ∙ length-append log.statements (accepted log.names reading) in
    let so : IsBatched i k pending after old.reported lines (next_line old + 1) =
    from_batched i k pending after old.reported lines (next_line old + 1)
    (batched_taken (Some i) (Some j) (Some k) (Some []) (Some []) pending line reading log after old.reported old.waiting.items (next_line old)
    (to_batched i j pending log old.reported old.waiting.items (next_line old) is) ((first, others), some) reads made takes.whole (omega (arith, is.within, longer))) in
    let number : next_line old + 1 ≡ next_line new =
    omega (arith, takes.lines, ap length takes.waiting, length-append old.waiting.items (line_outcome log.names reading ∷ [])) in
    subst (λ (x : ℕ). IsBatched i k pending after x new.waiting.items (next_line new)) (sym takes.reported)
    (subst (λ (x : List LineOutcome). IsBatched i k pending after old.reported x (next_line new)) (sym takes.waiting)
    (subst (λ (x : ℕ). IsBatched i k pending after old.reported lines x) number so))

-- all lines that waited were reported
pub record IsReported (old new : LineRun) : Type 0 where
  pub log : new.engine.log ≡ old.engine.log
  pub left : new.waiting.items ≡ []
  pub lines : new.lines ≡ old.lines + length old.waiting.items
  pub reported : new.reported ≡ length old.engine.log.statements

run_reported : (i j pending told : List ℕ) (old new : LineRun)
    → told ≡ lines_text old.engine.log (old.lines + 1) old.reported old.waiting.items → IsCounted old → IsReported old new
    → IsRunTo i j pending old → IsRunTo i j (pending ++ told) new
run_reported i j pending told old new is counted all so =
    let log : Accepted = old.engine.log in
    let next : ℕ = next_line old in
    let put : ReportsLines log old.reported new.reported old.waiting.items [] next pending (pending ++ told) = record {
      out = old.waiting.items;
      all = sym (append-nil old.waiting.items);
      first = old.lines + 1;
      number = omega arith;
      told = ap (λ (w : List ℕ). pending ++ w) is;
      places = all.reported ∙ sym counted;
    } in
    let now : IsBatched i j (pending ++ told) log new.reported [] next =
    from_batched i j (pending ++ told) log new.reported [] next
    (batched_reported (Some i) (Some j) (Some []) (Some []) log old.reported new.reported old.waiting.items [] next pending (pending ++ told)
    (to_batched i j pending log old.reported old.waiting.items next so) put (omega (arith, all.reported))) in
    subst (λ (x : Accepted). IsBatched i j (pending ++ told) x new.reported new.waiting.items (next_line new)) (sym all.log)
    (subst (λ (x : List LineOutcome). IsBatched i j (pending ++ told) log new.reported x (next_line new)) (sym all.left)
    (subst (λ (x : ℕ). IsBatched i j (pending ++ told) log new.reported [] x) (omega (arith, all.lines, ap length all.left)) now))

-- all lines of the text were reported
report_ended : (input written : List ℕ) (log : Accepted) (done next : ℕ) → IsBatched input [] written log done [] next → IsReport input written
report_ended input written log done next is =
    let reads : AreParsedLines (lines_of input) is.earlier =
    subst (AreParsedLines (lines_of input)) (append-nil is.earlier) (read_before input [] is.earlier is.leads [] tt) in
    let made : IsLogOf is.earlier log is.reported = subst (IsLogOf is.earlier log) (append-nil is.reported) is.made in
    subst (IsReport input) (sym is.text) (report_is input log is.reported (is.earlier, (reads, made)))

-- at first
pub stands_start : (run : FedRun) → run.begun.items ≡ [] → run.sent ≡ 0 → IsFresh run.run → IsFed run [] []
stands_start run begun sent first = record {
  tail = [];
  kept = begun;
  unended = no_line;
  reached = λ future may.
      let empty : IsLogOf [] empty_log [] = record { names = refl; statements = refl; each = refl } in
      record {
        earlier = [];
        leads = read_start future;
        reported = [];
        made = subst (λ (ls : List LineOutcome). IsLogOf [] run.run.engine.log ls) (sym first.nobody) (subst (λ (l : Accepted). IsLogOf [] l []) (sym first.log) empty);
        number = omega (arith, first.lines, ap length first.nobody);
        places = sym first.reported;
        text = ap (λ (n : ℕ). drop n run.run.pending.items) sent ∙ first.nothing;
        whole = first.whole;
        within = omega (arith, first.reported);
      };
}

-- where nothing of it has changed but what is given
module _ (old new : FedRun) (begun : new.begun.items ≡ old.begun.items) (ended : new.is_ended ≡ old.is_ended) (keeps : KeepsLines old.run new.run) where
  pub stands_given : (given : List ℕ) → given ++ unsent new ≡ unsent old → (input written : List ℕ) → IsFed old input written → IsFed new input (written ++ given)
  stands_given given is input written stands = record {
    tail = stands.tail;
    kept = begun ∙ stands.kept;
    unended = stands.unended;
    reached = λ future may.
        run_same (input ++ future) (stands.tail ++ future) (written ++ unsent old) ((written ++ given) ++ unsent new) old.run new.run keeps
        (ap (λ (w : List ℕ). written ++ w) (sym is) ∙ sym (append_assoc written given (unsent new)))
        (stands.reached future (λ told. may (ended ∙ told)));
  }

  pub stands_same : unsent new ≡ unsent old → (input written : List ℕ) → IsFed old input written → IsFed new input written
  stands_same is input written stands = subst (IsFed new input) (append-nil written) (stands_given [] is input written stands)

-- the lines that waited were reported
pub stands_reported : (old new : FedRun) → unsent old ≡ [] → new.begun.items ≡ old.begun.items → new.is_ended ≡ old.is_ended
    → unsent new ≡ lines_text old.run.engine.log (old.run.lines + 1) old.run.reported old.run.waiting.items → IsCounted old.run → IsReported old.run new.run
    → (input written : List ℕ) → IsFed old input written → IsFed new input written
stands_reported old new nothing begun ended told counted all input written stands = record {
  tail = stands.tail;
  kept = begun ∙ stands.kept;
  unended = stands.unended;
  reached = λ future may.
      subst (λ (w : List ℕ). IsRunTo (input ++ future) (stands.tail ++ future) (w ++ unsent new) new.run)
      (ap (λ (w : List ℕ). written ++ w) nothing ∙ append-nil written)
      (run_reported (input ++ future) (stands.tail ++ future) (written ++ unsent old) (unsent new) old.run new.run told counted all
      (stands.reached future (λ is. may (ended ∙ is))));
}

-- a line was taken: the tail, and what ends it
module _ (old new : FedRun) (begun : new.begun.items ≡ []) (ended : new.is_ended ≡ old.is_ended) (unsent_is : unsent new ≡ unsent old) where
  stands_after : (input written piece line : List ℕ) (stands : IsFed old input written)
      → ((future : List ℕ) → MayCome new future → MayCome old (piece ++ future))
      → ((future : List ℕ) → MayCome new future → (line ≡ take 4097 (first_line (stands.tail ++ (piece ++ future)))) × (other_lines (stands.tail ++ (piece ++ future)) ≡ future)
      × (0 < length (stands.tail ++ (piece ++ future))))
      → (reading : ParsedLine) → ReadsAs (next_line old.run == 1) old.run.engine.log.names.version line reading → Takes reading old.run new.run → IsFed new (input ++ piece) written
  stands_after input written piece line stands come cut reading reads takes = record {
    tail = [];
    kept = begun;
    unended = no_line;
    reached = λ future may.
        let at = cut future may in
        subst (λ (w : List ℕ). IsRunTo w future (written ++ unsent new) new.run) (sym (append_assoc input piece future))
        (subst (λ (w : List ℕ). IsRunTo (input ++ (piece ++ future)) future (written ++ w) new.run) (sym unsent_is)
        (run_taken (input ++ (piece ++ future)) (stands.tail ++ (piece ++ future)) future (written ++ unsent old) line reading old.run new.run
        at.0 (sym at.1) at.2 reads takes (stands.reached (piece ++ future) (come future may))));
  }

  -- an LF among the bytes ends it
  pub stands_line : (bytes end : List ℕ) (count : ℕ) → old.is_ended ≡ false → 0 < count → count ≤ length bytes
      → other_lines (bytes ++ 10 ∷ []) ≡ drop count bytes ++ 10 ∷ [] → end ≡ take 4097 (first_line (bytes ++ 10 ∷ []))
      → ((line : List ℕ) → old.begun.items ≡ take 4097 line → (reading : ParsedLine) × (ReadsAs (next_line old.run == 1) old.run.engine.log.names.version (take 4097 (line ++ end)) reading × Takes reading old.run new.run))
      → (input written : List ℕ) → IsFed old input written → IsFed new (input ++ take count bytes) written
  stands_line bytes end count going some less others is took input written stands =
      let read = took stands.tail stands.kept in
      let piece : List ℕ = take count bytes in
      stands_after input written piece (take 4097 (stands.tail ++ end)) stands
      (λ future may told. absurd (cc (sym going ∙ told)))
      (λ future may.
      let at = cut_at future bytes count less others in
      let through = first_through (piece ++ future) stands.tail stands.unended in (
        kept_line stands.tail end (take 4097 (stands.tail ++ end)) (first_line (bytes ++ 10 ∷ [])) is refl
            ∙ ap (take 4097) (ap (λ (w : List ℕ). stands.tail ++ w) (sym at.0) ∙ sym through),
        other_through (piece ++ future) stands.tail stands.unended ∙ at.1,
        omega (arith, length-append stands.tail (piece ++ future), length-append piece future, length-take-le count bytes less, some),
      ))
      read.0 read.1.0 read.1.1

  -- the end of the text ends it
  pub stands_last : old.is_ended ≡ true → (old.begun.items ≡ [] → ⊥)
      → ((line : List ℕ) → old.begun.items ≡ take 4097 line → (reading : ParsedLine) × (ReadsAs (next_line old.run == 1) old.run.engine.log.names.version (take 4097 (line ++ [])) reading × Takes reading old.run new.run))
      → (input written : List ℕ) → IsFed old input written → IsFed new input written
  stands_last told some took input written stands =
      let read = took stands.tail stands.kept in
      let through = first_through [] stands.tail stands.unended in
      let over = other_through [] stands.tail stands.unended in
      let long : 0 < length stands.tail = some_begun stands.tail (λ none. some (stands.kept ∙ ap (take 4097) none)) in
      subst (λ (w : List ℕ). IsFed new w written) (append-nil input)
      (stands_after input written [] (take 4097 (stands.tail ++ [])) stands
      (λ future may is. may (ended ∙ is))
      (λ future may.
      let nothing : future ≡ [] = may (ended ∙ told) in (
        ap (take 4097) (sym through) ∙ ap (λ (w : List ℕ). take 4097 (first_line (stands.tail ++ w))) (sym nothing),
        ap (λ (w : List ℕ). other_lines (stands.tail ++ w)) nothing ∙ over ∙ sym nothing,
        omega (arith, long, length-append stands.tail future),
      ))
      read.0 read.1.0 read.1.1)
    where
      some_begun : (line : List ℕ) → (line ≡ [] → ⊥) → 0 < length line
      some_begun [] none = absurd (none refl)
      some_begun (b ∷ bs) none = omega arith

-- no LF is among the bytes
pub stands_begun : (old new : FedRun) (bytes : List ℕ) → (HasLine bytes → ⊥)
    → ((line : List ℕ) → old.begun.items ≡ take 4097 line → new.begun.items ≡ take 4097 (line ++ bytes)) → new.is_ended ≡ old.is_ended → old.is_ended ≡ false
    → KeepsLines old.run new.run → unsent new ≡ unsent old → (input written : List ℕ) → IsFed old input written → IsFed new (input ++ bytes) written
stands_begun old new bytes none keeps ended going lines unsent_is input written stands = record {
  tail = stands.tail ++ bytes;
  kept = keeps stands.tail stands.kept;
  unended = no_line-append stands.tail bytes stands.unended none;
  reached = λ future may.
      subst (λ (w : List ℕ). IsRunTo w ((stands.tail ++ bytes) ++ future) (written ++ unsent new) new.run) (sym (append_assoc input bytes future))
      (subst (λ (w : List ℕ). IsRunTo (input ++ (bytes ++ future)) w (written ++ unsent new) new.run) (sym (append_assoc stands.tail bytes future))
      (run_same (input ++ (bytes ++ future)) (stands.tail ++ (bytes ++ future)) (written ++ unsent old) (written ++ unsent new) old.run new.run lines
      (ap (λ (w : List ℕ). written ++ w) (sym unsent_is))
      (stands.reached (bytes ++ future) (λ told. absurd (cc (sym going ∙ told))))));
}

-- all was given, and nothing waits or has begun
pub report_given : (run : FedRun) → run.begun.items ≡ [] → unsent run ≡ [] → run.run.waiting.items ≡ [] → (input written : List ℕ) → IsFed run input written → IsReport input written
report_given run begun nothing none input written stands =
    let empty : stands.tail ≡ [] = nothing_begun stands.tail (sym begun ∙ stands.kept) in
    let is = stands.reached [] (λ _. refl) in
    report_ended input written run.run.engine.log run.run.reported (next_line run.run)
    (subst (λ (x : List LineOutcome). IsBatched input [] written run.run.engine.log run.run.reported x (next_line run.run)) none
    (subst (λ (w : List ℕ). IsRunTo input [] w run.run) (ap (λ (w : List ℕ). written ++ w) nothing ∙ append-nil written)
    (subst (λ (w : List ℕ). IsRunTo w [] (written ++ unsent run) run.run) (append-nil input)
    (subst (λ (w : List ℕ). IsRunTo (input ++ []) w (written ++ unsent run) run.run) (append-nil stands.tail ∙ empty) is))))

-- what was given, and what is to be given, begins the report
pub given_begins : (run : FedRun) (input written future : List ℕ) → IsFed run input written → MayCome run future → BeginsReport (input ++ future) (written ++ unsent run)
given_begins run input written future stands may =
    begins (input ++ future) (stands.tail ++ future) (written ++ unsent run) run.run (stands.reached future may)

-- the text was ended
pub stands_told : (old new : FedRun) → new.begun.items ≡ old.begun.items → new.is_ended ≡ true → new.run ≡ old.run → unsent new ≡ unsent old
    → (input written : List ℕ) → IsFed old input written → IsFed new input written
stands_told old new begun ended same unsent_is input written stands = record {
  tail = stands.tail;
  kept = begun ∙ stands.kept;
  unended = stands.unended;
  reached = λ future may.
      run_same (input ++ future) (stands.tail ++ future) (written ++ unsent old) (written ++ unsent new) old.run new.run (keeps_same old.run new.run same)
      (ap (λ (w : List ℕ). written ++ w) (sym unsent_is))
      (stands.reached future (λ told. may ended));
}

-- so it is by how many bytes they are
pub stands_all : (old new : FedRun) (bytes : List ℕ) (n : ℕ) → length bytes ≤ n → (HasLine bytes → ⊥)
    → ((line : List ℕ) → old.begun.items ≡ take 4097 line → new.begun.items ≡ take 4097 (line ++ bytes)) → new.is_ended ≡ old.is_ended → old.is_ended ≡ false
    → KeepsLines old.run new.run → unsent new ≡ unsent old → (input written : List ℕ) → IsFed old input written → IsFed new (input ++ take n bytes) written
stands_all old new bytes n all none keeps ended going lines unsent_is input written stands =
    subst (λ (w : List ℕ). IsFed new (input ++ w) written) (sym (take_all n bytes all))
    (stands_begun old new bytes none keeps ended going lines unsent_is input written stands)
