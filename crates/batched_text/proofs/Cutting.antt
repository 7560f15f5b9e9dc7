-- The mark, batch after batch.
use Rattle.std.proofs.Common.{◌≡◌, ◌<◌, ◌≤◌, ◌+◌, ◌-◌, ◌*◌, ◌^◌, ◌&&◌, ◌++◌, ◌∷◌, [], ℕ, zero, suc, Bool, true, List, length, refl, ap, sym, ◌∙◌, subst, arith, inl, inr}
use Rattle.std.specs.Prelude.{◌==◌, min, nat_le, if◌then◌else◌}
use Rattle.std.proofs.Math.Nat.{mul-sub}
use Rattle.std.proofs.lemmas.Bool.{and_parts, cases_lt, le-ltb, leb-true, lt-ltb, ne_eqb}
use Rattle.std.proofs.lemmas.List.{append-nil, length-append}
use Rattle.report.specs.Report.{ParsedLine, accepted}
use Rattle.sequencer.specs.Log.{Accepted}
use Rattle.sequencer.specs.Whole.{IsWhole}
use Rattle.bohm_base.specs.Collecting.{line_outcome, places_in, with_reading}
use Rattle.bohm_base.specs.declared.collecting.LineOutcome.{LineOutcome}
use Rattle.engine.specs.Engine.{Run, finished}
use Rattle.batched_text.specs.Batching.{Deals, HasRoomForLine, IsFilling, IsFresh, IsOpen, IsSteady, ReportsAll, ReportsFirst, ReportsLines, RunsBatch, Takes, next_line}
use Rattle.batched_text.specs.History.{IsCutBy, IsRanTo, IsTrimmedBy}
use Rattle.batched_text.specs.Settings.{IsCut, IsCutEarly, IsTrimmed, are_within_limits, in_order, mark_behind}
use Rattle.batched_text.specs.Sweeping.{IsSwept}
use Rattle.batched_text.specs.declared.line_run.LineRun.{LineRun}
use Rattle.batched_text.specs.declared.history.Cut.{Cut}
use Rattle.batched_text.specs.declared.history.Plan.{Plan}
use Rattle.batched_text.specs.declared.settings.Settings.{Settings}
use Rattle.batched_text.proofs.Ended.{counted_more, one_more}
use Rattle.batched_text.proofs.Histories.{Between, kept_first, kept_longer, ran_all, ran_between, ran_longer}
use Rattle.batched_text.proofs.Sweeping.{swept_first}

-- the mark by the number of batches that are kept
abbrev mark_by : ℕ → ℕ → ℕ → ℕ → ℕ
mark_by keep batch start end = if keep == 0 then end else start - batch * (keep - 1)

some-kept : (keep batch start end : ℕ) → mark_by (suc keep) batch start end ≡ start - batch * keep
some-kept keep batch start end =
    let one : suc keep - 1 ≡ keep = omega arith in
    ap (λ (b : Bool). if b then end else start - batch * (suc keep - 1)) (ne_eqb (suc keep) 0 (λ same. omega (arith, same)))
    ∙ ap (λ (n : ℕ). start - batch * n) one

pub mark_later : (keep batch batches start end mark : ℕ) → start ≤ end → start ≡ batch * batches → mark ≡ batch * (batches - keep) → mark ≤ mark_by keep batch start end
mark_later zero batch batches start end mark less is at =
    omega (arith, mul-sub batch batches 0)
mark_later (suc keep) batch batches start end mark less is at =
    let here : mark ≡ batch * batches - batch * suc keep = at ∙ mul-sub batch batches (suc keep) in
    omega (arith, some-kept keep batch start end)

-- the mark after a later batch isn't earlier
mark_order : (keep batch start end start_2 end_2 : ℕ) → start ≤ start_2 → end ≤ end_2 → mark_by keep batch start end ≤ mark_by keep batch start_2 end_2
mark_order zero batch start end start_2 end_2 less within = omega (arith, within)
mark_order (suc keep) batch start end start_2 end_2 less within =
    omega (arith, less, some-kept keep batch start end, some-kept keep batch start_2 end_2)

-- one more batch, which is full
pub mark_full : (keep batch batches start : ℕ) → start ≡ batch * batches → mark_by keep batch start (start + batch) ≡ batch * ((batches + 1) - keep)
mark_full zero batch batches start is = omega (arith, mul-sub batch (batches + 1) 0)
mark_full (suc keep) batch batches start is =
    let same : (batches + 1) - suc keep ≡ batches - keep = omega arith in
    some-kept keep batch start (start + batch)
    ∙ ap (λ (n : ℕ). n - batch * keep) is
    ∙ sym (mul-sub batch batches keep)
    ∙ ap (λ (n : ℕ). batch * n) (sym same)

-- one more batch, which may be smaller
pub mark_last : (keep batch batches start end : ℕ) → start ≡ batch * batches → start < end → end ≤ start + batch
    → mark_by keep batch start end ≡ min end (batch * ((batches + 1) - keep))
mark_last zero batch batches start end is more less = omega (arith, mul-sub batch (batches + 1) 0)
mark_last (suc keep) batch batches start end is more less =
    let same : (batches + 1) - suc keep ≡ batches - keep = omega arith in
    let there : batch * ((batches + 1) - suc keep) ≡ batch * batches - batch * keep = ap (λ (n : ℕ). batch * n) same ∙ mul-sub batch batches keep in
    omega (arith, some-kept keep batch start end, there)

-- no batch more
pub mark_none : (keep batch batches start mark : ℕ) → start ≡ batch * batches → mark ≡ batch * (batches - keep) → mark ≡ min start (batch * (batches - keep))
mark_none keep batch batches start mark is at = omega (arith, mul-sub batch batches keep)

-- settings within their limits
pub record Limits (settings : Settings) : Type 0 where
  pub partitions : 0 < settings.partitions
  pub batch_some : 0 < settings.batch
  pub batch_most : settings.batch ≤ 65536
  pub keep_most : settings.keep ≤ 65535

pub limits : (settings : Settings) → are_within_limits settings ≡ true → Limits settings
limits settings within =
    let workers : Bool = nat_le 1 settings.workers && nat_le settings.workers 64 in
    let partitions : Bool = nat_le 1 settings.partitions && nat_le settings.partitions 64 in
    let batch : Bool = nat_le 1 settings.batch && nat_le settings.batch 65536 in
    let all = and_parts ((workers && partitions) && batch) (nat_le settings.keep 65535) within in
    let three = and_parts (workers && partitions) batch all.0 in
    let two = and_parts workers partitions three.0 in
    let some = and_parts (nat_le 1 settings.batch) (nat_le settings.batch 65536) three.1 in
    let parts = and_parts (nat_le 1 settings.partitions) (nat_le settings.partitions 64) two.1 in
    let least = leb-true 1 settings.partitions parts.0 in
    let one = leb-true 1 settings.batch some.0 in
    record {
      partitions = omega (arith, least);
      batch_some = omega (arith, one);
      batch_most = leb-true settings.batch 65536 some.1;
      keep_most = leb-true settings.keep 65535 all.1;
    }

-- the store's mark is none that lies too late for the next batch
mark_so_far : (cut : Cut) (settings : Settings) (run : Run) → IsCutBy cut settings run → finished run ≤ length run.log.statements
    → run.store.mark ≤ mark_behind settings (finished run) (length run.log.statements)
mark_so_far Cut.WhenFull settings run is less =
    mark_later settings.keep settings.batch is.batches (finished run) (length run.log.statements) run.store.mark less is.full is.mark
mark_so_far Cut.BeforeReads settings run is less =
    omega (arith, is.most, mark_order settings.keep settings.batch (finished run - 1) (finished run) (finished run) (length run.log.statements) (omega arith) less)

pub waits_for : (plan : Plan) (run : LineRun) → IsSteady plan run
    → run.engine.store.mark ≤ mark_behind plan.settings (finished run.engine) (length run.engine.log.statements)
waits_for plan run steady = mark_so_far plan.cut plan.settings run.engine steady.cut (ran_between plan.cut run steady.ran steady.counted).most

-- after a batch that begins at one place and ends at another, full or not
pub ends_early : (settings : Settings) (run : Run) (start end : ℕ) → finished run ≡ end → run.store.mark ≡ mark_behind settings start end
    → end ≤ start + settings.batch → start < end → IsCutEarly settings run
ends_early settings run start end all mark most more =
    let keep : ℕ = settings.keep in
    let batch : ℕ = settings.batch in
    let least : mark_behind settings (finished run - batch) (finished run) ≡ mark_behind settings (end - batch) end =
    ap (λ (n : ℕ). mark_behind settings (n - batch) n) all in
    let last : mark_behind settings (finished run - 1) (finished run) ≡ mark_behind settings (end - 1) end =
    ap (λ (n : ℕ). mark_behind settings (n - 1) n) all in
    record {
      least = omega (arith, least, mark, mark_order keep batch (end - batch) end start end (omega (arith, most)) (omega arith));
      most = omega (arith, last, mark, mark_order keep batch start end (end - 1) end (omega (arith, more)) (omega arith));
    }

-- a batch may end: it is full, or may end early
abbrev pub IsDue : Cut → Settings → Run → Type 0
IsDue Cut.WhenFull settings run = finished run + settings.batch ≤ length run.log.statements
IsDue Cut.BeforeReads settings run = Unit {0}

pub due : (cut : Cut) (settings : Settings) (run : LineRun) (waiting : ℕ) → IsRanTo cut run.reported run.engine → settings.batch ≤ waiting
    → waiting + run.reported ≡ length run.engine.log.statements → IsDue cut settings run.engine
due Cut.BeforeReads settings run waiting ran full all = tt
due Cut.WhenFull settings run waiting ran full all = omega (arith, ran, full, all)

module _ (settings : Settings) (old new : Run) (ran : RunsBatch settings old new) where
  abbrev count : ℕ
  count = length old.log.statements

  marked : finished old < count → new.store.mark ≡ mark_behind settings (finished old) count
  marked more =
      ran.mark
      ∙ ap (λ (b : Bool). if b then mark_behind settings (finished old) count else old.store.mark) (lt-ltb (finished old) count more)

  unmarked : count ≤ finished old → new.store.mark ≡ old.store.mark
  unmarked none =
      ran.mark
      ∙ ap (λ (b : Bool). if b then mark_behind settings (finished old) count else old.store.mark) (le-ltb (finished old) count none)

  -- the cut after one more batch, which may have ended early
  early_more : count ≤ finished old + settings.batch → finished old < count → IsCutEarly settings new
  early_more most more = ends_early settings new (finished old) count ran.all (marked more) most more

  early_none : IsCutEarly settings old → count ≡ finished old → IsCutEarly settings new
  early_none cut none =
      let same : finished new ≡ finished old = ran.all ∙ none in
      let mark : new.store.mark ≡ old.store.mark = unmarked (omega (arith, none)) in
      let least = ap (λ (n : ℕ). mark_behind settings (n - settings.batch) n) same in
      let last = ap (λ (n : ℕ). mark_behind settings (n - 1) n) same in
      record { least = omega (arith, least, mark, cut.least); most = omega (arith, last, mark, cut.most) }

  pub cut_early : IsCutEarly settings old → finished old ≤ count → count ≤ finished old + settings.batch → IsCutEarly settings new
  cut_early cut within most =
      elim (cases_lt (finished old) count) [
        | inl more ↦ early_more most more
        | inr none ↦ early_none cut (omega (arith, none, within))
      ]

  cut_next : (by : Cut) → IsCutBy by settings old → finished old ≤ count → count ≤ finished old + settings.batch
      → 0 < settings.batch → IsDue by settings old → IsCutBy by settings new
  cut_next Cut.WhenFull cut within most some full =
      let whole : count ≡ finished old + settings.batch = omega (arith, most, full) in
      record {
        batches = cut.batches + 1;
        full = omega (arith, ran.all, whole, cut.full);
        mark = marked (omega (arith, some, full)) ∙ ap (mark_behind settings (finished old)) whole
            ∙ mark_full settings.keep settings.batch cut.batches (finished old) cut.full;
      }
  cut_next Cut.BeforeReads cut within most some may = cut_early cut within most

  -- what is left at the end
  trimmed_last : IsCut settings old → count ≤ finished old + settings.batch → finished old < count → IsTrimmed settings new
  trimmed_last cut most more = record {
    batches = cut.batches + 1;
    most = omega (arith, ran.all, most, cut.full);
    least = omega (arith, ran.all, cut.full, more);
    mark = marked more ∙ mark_last settings.keep settings.batch cut.batches (finished old) count cut.full more most
        ∙ ap (λ (n : ℕ). min n (settings.batch * ((cut.batches + 1) - settings.keep))) (sym ran.all);
  }

  trimmed_none : IsCut settings old → 0 < settings.batch → count ≡ finished old → IsTrimmed settings new
  trimmed_none cut some none =
      let same : finished new ≡ finished old = ran.all ∙ none in
      record {
        batches = cut.batches;
        most = omega (arith, same, cut.full);
        least = omega (arith, same, cut.full, some);
        mark = unmarked (omega (arith, none)) ∙ mark_none settings.keep settings.batch cut.batches (finished old) old.store.mark cut.full cut.mark
            ∙ ap (λ (n : ℕ). min n (settings.batch * (cut.batches - settings.keep))) (sym same);
      }

  trimmed_by : (by : Cut) → IsCutBy by settings old → finished old ≤ count → count ≤ finished old + settings.batch
      → 0 < settings.batch → IsTrimmedBy by settings new
  trimmed_by Cut.WhenFull cut within most some =
      elim (cases_lt (finished old) count) [
        | inl more ↦ trimmed_last cut most more
        | inr none ↦ trimmed_none cut some (omega (arith, none, within))
      ]
  trimmed_by Cut.BeforeReads cut within most some = cut_early cut within most

-- where no rows before a batch are kept
pub mark_alone : (batch : ℕ) (old new : Run) → RunsBatch (in_order batch) old new → old.store.mark ≡ finished old → finished old ≤ length old.log.statements
    → new.store.mark ≡ finished new
mark_alone batch old new ran mark within =
    elim (cases_lt (finished old) (length old.log.statements)) [
      | inl more ↦ marked (in_order batch) old new ran more ∙ sym ran.all
      | inr none ↦ unmarked (in_order batch) old new ran none ∙ mark ∙ omega (arith, none, within, ran.all)
    ]

module _ (plan : Plan) (old new : LineRun) (reported : ReportsAll plan old new) (steady : IsSteady plan old) where
  steady_between : Between old
  steady_between = ran_between plan.cut old steady.ran steady.counted

  new_counts : length new.engine.log.statements ≡ length old.engine.log.statements
  new_counts = ap (λ (log : Accepted). length log.statements) reported.ran.log

  -- the next batch, after one that is due
  steady_next : IsDue plan.cut plan.settings old.engine → IsSteady plan new
  steady_next due = record {
    within = steady.within;
    counted = omega (arith, new_counts, reported.reported, ap places_in reported.left);
    ran = ran_all plan.cut new.reported new.engine (reported.reported ∙ sym reported.ran.all) (omega (arith, reported.ran.all, new_counts));
    numbered = omega (arith, steady.numbered, reported.lines, ap length reported.left);
    kept = reported.kept;
    cut = cut_next plan.settings old.engine new.engine reported.ran plan.cut steady.cut steady_between.most
        (omega (arith, steady.most, steady_between.least)) (limits plan.settings steady.within).batch_some due;
    swept = reported.ran.swept;
    most = omega (arith, new_counts, reported.reported);
  }

-- where batches end before reads one may end before it is full
pub steady_early : (plan : Plan) (old new : LineRun) → IsSteady plan old → plan.cut ≡ Cut.BeforeReads → ReportsAll plan old new → IsSteady plan new
steady_early plan old new steady early reported =
    steady_next plan old new reported steady (subst (λ (cut : Cut). IsDue cut plan.settings old.engine) (sym early) tt)

module _ (plan : Plan) (old new : LineRun) (reported : ReportsAll plan old new) (filling : IsFilling plan old) where
  between : Between old
  between = ran_between plan.cut old filling.steady.ran filling.steady.counted

  counts : length new.engine.log.statements ≡ length old.engine.log.statements
  counts = ap (λ (log : Accepted). length log.statements) reported.ran.log

  some : 0 < plan.settings.batch
  some = (limits plan.settings filling.steady.within).batch_some

  -- the next batch, after one that is due
  open_next : IsDue plan.cut plan.settings old.engine → IsOpen plan new
  open_next due = record {
    filling = record {
      whole = subst IsWhole (sym reported.ran.log) filling.whole;
      steady = steady_next plan old new reported filling.steady due;
    };
    less = omega (arith, counts, reported.reported, some);
  }

  pub trimmed_all : IsTrimmedBy plan.cut plan.settings new.engine
  trimmed_all =
      trimmed_by plan.settings old.engine new.engine reported.ran plan.cut filling.steady.cut between.most (omega (arith, filling.steady.most, between.least)) some

  -- all lines that waited are reported
  pub reports_all : IsDue plan.cut plan.settings old.engine → ReportsFirst plan old new
  reports_all due = record {
    log = reported.ran.log;
    number = omega (arith, reported.lines, ap length reported.left);
    lines = record {
      out = old.waiting.items;
      all = sym (append-nil old.waiting.items) ∙ ap (λ (ls : List LineOutcome). old.waiting.items ++ ls) (sym reported.left);
      first = old.lines + 1;
      number = omega arith;
      told = reported.told;
      places = reported.reported ∙ sym filling.steady.counted;
    };
    room = open_next due;
  }

-- where batches end before reads one may end before it is full
pub reports_early : (plan : Plan) (old new : LineRun) → IsFilling plan old → plan.cut ≡ Cut.BeforeReads → ReportsAll plan old new → ReportsFirst plan old new
reports_early plan old new filling early reported =
    reports_all plan old new reported filling (subst (λ (cut : Cut). IsDue cut plan.settings old.engine) (sym early) tt)

-- none is reported
pub reports_none : (plan : Plan) (run : LineRun) → IsOpen plan run → ReportsFirst plan run run
reports_none plan run room = record {
  log = refl;
  number = refl;
  lines = record {
    out = [];
    all = refl;
    first = run.lines + 1;
    number = omega arith;
    told = sym (append-nil run.pending.items);
    places = omega arith;
  };
  room = room;
}

-- more statements change nothing of what is finished
cut_longer : (by : Cut) (settings : Settings) (run : Run) (log : Accepted) → IsCutBy by settings run → IsCutBy by settings (record run { log = log })
cut_longer Cut.WhenFull settings run log cut = record { batches = cut.batches; full = cut.full; mark = cut.mark }
cut_longer Cut.BeforeReads settings run log cut = record { least = cut.least; most = cut.most }

-- a line that was taken fills the batch by one statement at most
pub steady_taken : (plan : Plan) (old new : LineRun) (reading : ParsedLine) → IsSteady plan old → HasRoomForLine plan old → next_line old < 2 ^ 64
    → Takes reading old new → IsSteady plan new
steady_taken plan old new reading was less number takes =
    let log : Accepted = old.engine.log in
    let line : LineOutcome = line_outcome log.names reading in
    let longer : length new.engine.log.statements ≡ length log.statements + length (accepted log.names reading) =
    ap (λ (run : Run). length run.log.statements) takes.engine ∙ length-append log.statements (accepted log.names reading) in
    let dropped = ap (λ (run : Run). run.dropped) takes.engine in
    record {
      within = was.within;
      counted = counted_more old new reading was.counted takes;
      ran = ran_longer plan.cut old.reported new.reported old.engine new.engine takes.reported (ap finished takes.engine) (omega (arith, longer)) was.ran;
      numbered = omega (arith, number, takes.lines, ap length takes.waiting, length-append old.waiting.items (line ∷ []));
      kept = kept_longer plan.history old.reported new.reported old.engine new.engine dropped takes.reported was.kept;
      cut = subst (IsCutBy plan.cut plan.settings) (sym takes.engine) (cut_longer plan.cut plan.settings old.engine (with_reading log reading) was.cut);
      swept = subst IsSwept (sym (ap (λ (run : Run). run.store) takes.engine)) was.swept;
      most = omega (arith, less, one_more log.names reading, longer, takes.reported);
    }

pub filled : (plan : Plan) (old new : LineRun) (reading : ParsedLine) → IsOpen plan old → next_line old < 2 ^ 64 → Takes reading old new → IsFilling plan new
filled plan old new reading room number takes =
    record { whole = takes.whole; steady = steady_taken plan old new reading room.filling.steady room.less number takes }

-- a line that was taken, and what was reported then
pub dealt : (plan : Plan) (reading : ParsedLine) (old taken new : LineRun) → Takes reading old taken → ReportsFirst plan taken new → Deals reading old new
dealt plan reading old taken new takes put =
    let line : LineOutcome = line_outcome old.engine.log.names reading in
    let lines : List LineOutcome = old.waiting.items ++ line ∷ [] in
    let number : next_line taken ≡ next_line old + 1 = omega (arith, takes.lines, ap length takes.waiting, length-append old.waiting.items (line ∷ [])) in
    let P : Accepted → ℕ → List LineOutcome → ℕ → List ℕ → Type 0 =
    λ l d ls n pending. ReportsLines l d new.reported ls new.waiting.items n pending new.pending.items in
    record {
      log = put.log ∙ ap (λ (run : Run). run.log) takes.engine;
      number = put.number ∙ number;
      reports = subst (λ (l : Accepted). P l old.reported lines (next_line new) old.pending.items) (sym put.log)
          (subst (λ (n : ℕ). P taken.engine.log old.reported lines n old.pending.items) (sym put.number)
          (subst (λ (pending : List ℕ). P taken.engine.log old.reported lines (next_line taken) pending) takes.pending
          (subst (λ (ls : List LineOutcome). P taken.engine.log old.reported ls (next_line taken) taken.pending.items) takes.waiting
          (subst (λ (n : ℕ). P taken.engine.log n taken.waiting.items (next_line taken) taken.pending.items) takes.reported put.lines))));
    }

-- before the first batch
none_behind : (keep batch : ℕ) → mark_by keep batch 0 0 ≡ 0
none_behind zero batch = refl
none_behind (suc keep) batch = omega (arith, some-kept keep batch 0 0)

cut_first : (by : Cut) (settings : Settings) (batching : LineRun) → IsFresh batching → IsCutBy by settings batching.engine
cut_first Cut.WhenFull settings batching first =
    record { batches = 0; full = omega (arith, first.none); mark = first.mark ∙ sym (nothing settings.batch settings.keep) }
  where
    nothing : (batch keep : ℕ) → batch * (0 - keep) ≡ 0
    nothing batch keep =
        let none : 0 - keep ≡ 0 = omega arith in
        let zero-times : batch * 0 ≡ 0 = omega arith in
        ap (λ (n : ℕ). batch * n) none ∙ zero-times
cut_first Cut.BeforeReads settings batching first =
    let no_mark : mark_behind settings 0 0 ≡ 0 = none_behind settings.keep settings.batch in
    let least : mark_behind settings (finished batching.engine - settings.batch) (finished batching.engine) ≡ mark_behind settings (0 - settings.batch) 0 =
    ap (λ (n : ℕ). mark_behind settings (n - settings.batch) n) first.none in
    let earlier : mark_behind settings (0 - settings.batch) 0 ≤ mark_behind settings 0 0 =
    mark_order settings.keep settings.batch (0 - settings.batch) 0 0 0 (omega arith) (omega arith) in
    record { least = omega (arith, least, earlier, no_mark); most = omega (arith, first.mark) }

-- at first
pub steady_first : (plan : Plan) (run : LineRun) → are_within_limits plan.settings ≡ true → IsFresh run → IsSteady plan run
steady_first plan run within first =
    let none : length run.engine.log.statements ≡ 0 = ap (λ (log : Accepted). length log.statements) first.log in
    record {
      within = within;
      counted = omega (arith, none, first.reported, ap places_in first.nobody);
      ran = ran_all plan.cut run.reported run.engine (first.reported ∙ sym first.none) (omega (arith, first.none));
      numbered = omega (arith, first.lines, ap length first.nobody);
      kept = kept_first plan.history run.reported run.engine first.kept first.reported;
      cut = cut_first plan.cut plan.settings run first;
      swept = swept_first run.engine.store first.mark;
      most = omega (arith, none);
    }

pub open_first : (plan : Plan) (run : LineRun) → are_within_limits plan.settings ≡ true → IsFresh run → IsOpen plan run
open_first plan run within first =
    let none : length run.engine.log.statements ≡ 0 = ap (λ (log : Accepted). length log.statements) first.log in
    record {
      filling = record { whole = first.whole; steady = steady_first plan run within first };
      less = omega (arith, none, (limits plan.settings within).batch_some);
    }
