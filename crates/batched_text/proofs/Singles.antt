-- A statement that was foretold is run as a batch of its own.
use Rattle.std.proofs.Common.{◌≡◌, ◌<◌, ◌+◌, ◌^◌, ◌++◌, ◌∷◌, [], ℕ, List, Some, length, refl, ap, sym, ◌∙◌, subst, arith}
use Rattle.std.specs.Prelude.{slice_get}
use Rattle.std.proofs.Math.Seq.{get_or-append_seam}
use Rattle.std.proofs.lemmas.List.{append-nil, length-append}
use Rattle.std.proofs.lemmas.Option.{slice_get_read}
use Rattle.model_base.specs.Outcomes.{outcome}
use Rattle.model_base.specs.declared.outcome.Outcome.{Outcome}
use Rattle.model_base.specs.declared.statement.Statement.{Statement}
use Rattle.log_text.specs.Statement.{Sentence}
use Rattle.sequencer.specs.Catalog.{numbered}
use Rattle.sequencer.specs.Foretelling.{IsForetold}
use Rattle.sequencer.specs.Log.{Accepted, with_accepted}
use Rattle.sequencer.specs.Whole.{IsWhole}
use Rattle.report.specs.Report.{place_text, read}
use Rattle.bohm_base.specs.Collecting.{line_outcome, places_in}
use Rattle.bohm_base.specs.Places.{IsFinishedAs}
use Rattle.bohm_base.specs.declared.collecting.LineOutcome.{LineOutcome}
use Rattle.engine.specs.Engine.{Run, RunsNext, finished}
use Rattle.batched_text.specs.Batching.{Deals, IsOpen, next_line}
use Rattle.batched_text.specs.History.{IsCutBy, IsKeptBy}
use Rattle.batched_text.specs.Settings.{mark_behind}
use Rattle.batched_text.specs.Sweeping.{IsSwept}
use Rattle.batched_text.specs.declared.line_run.LineRun.{LineRun}
use Rattle.batched_text.specs.declared.history.Cut.{Cut}
use Rattle.batched_text.specs.declared.history.History.{History}
use Rattle.batched_text.specs.declared.history.Plan.{Plan}
use Rattle.batched_text.proofs.Cutting.{ends_early, limits}
use Rattle.batched_text.proofs.Histories.{ran_all, ran_between}
use Rattle.batched_text.proofs.ForetoldLines.{known_became, known_log}

-- where all that was reported is dropped, as many places are dropped as were reported
all_dropped : (history : History) (reported : ℕ) (run : Run) → history ≡ History.Dropped → run.dropped ≡ reported → IsKeptBy history reported run
all_dropped history reported run drops dropped = subst (λ (h : History). IsKeptBy h reported run) (sym drops) dropped

-- where no line waits all places are finished
pub none_waits : (plan : Plan) (run : LineRun) → IsOpen plan run → run.waiting.items ≡ [] → finished run.engine ≡ length run.engine.log.statements
none_waits plan run room none =
    let between = ran_between plan.cut run room.filling.steady.ran room.filling.steady.counted in
    omega (arith, room.filling.steady.counted, ap places_in none, between.least, between.most)

-- and so were all reported, and dropped
pub none_kept : (plan : Plan) (run : LineRun) → IsOpen plan run → plan.history ≡ History.Dropped → run.waiting.items ≡ []
    → run.engine.dropped ≡ length run.engine.log.statements
none_kept plan run room drops none =
    subst (λ (h : History). IsKeptBy h run.reported run.engine) drops room.filling.steady.kept ∙ omega (arith, room.filling.steady.counted, ap places_in none)

module _ (sentence : Sentence) (statement : Statement) (found : Outcome) (old run : Run) (foretold : IsForetold old.log.names sentence statement)
    (next : RunsNext sentence found old run) (all : finished old ≡ length old.log.statements) where
  -- the place is finished
  pub finished_next : (new : Run) (place : ℕ) → new ≡ record run { store = new.store } → place ≡ finished old
      → (place < finished new) × IsFinishedAs new.log place statement found
  finished_next new place rest at =
      let log : Accepted = with_accepted old.log sentence in
      let is : new.log ≡ log = ap (λ (r : Run). r.log) rest ∙ next.log in
      let last : place ≡ length old.log.statements = at ∙ all in
      let there : slice_get log.statements (length old.log.statements) ≡ Some statement =
      slice_get_read log.statements (length log.statements) (length old.log.statements) statement refl
      (omega (arith, length-append old.log.statements (numbered old.log.names sentence ∷ [])))
      (foretold.ok ∙ sym (get_or-append_seam old.log.statements (numbered old.log.names sentence) [] statement)) in (
        omega (arith, at, ap finished rest, next.ends),
        record {
          there = ap (λ (l : Accepted). slice_get l.statements place) is ∙ ap (λ (n : ℕ). slice_get log.statements n) last ∙ there;
          came = ap (λ (r : Run). outcome r.log.statements place) rest ∙ ap (λ (n : ℕ). outcome run.log.statements n) at ∙ next.came;
        },
      )

module _ (plan : Plan) (sentence : Sentence) (statement : Statement) (found : Outcome) (old new : LineRun) (run : Run) (place : ℕ)
    (room : IsOpen plan old) (early : plan.cut ≡ Cut.BeforeReads) (drops : plan.history ≡ History.Dropped) (none : old.waiting.items ≡ [])
    (foretold : IsForetold old.engine.log.names sentence statement) (next : RunsNext sentence found old.engine run)
    (at : place ≡ finished old.engine) (rest : new.engine ≡ record run { store = new.engine.store })
    (mark : new.engine.store.mark ≡ mark_behind plan.settings place (place + 1)) (swept : IsSwept new.engine.store) (whole : IsWhole new.engine.log)
    (small : next_line old < 2 ^ 64) (lines : new.lines ≡ old.lines + 1) (left : new.waiting.items ≡ []) (reported : new.reported ≡ place + 1)
    (told : new.pending.items ≡ old.pending.items ++ place_text new.engine.log.statements new.engine.log.names place) where
  log-is : new.engine.log ≡ with_accepted old.engine.log sentence
  log-is = ap (λ (r : Run). r.log) rest ∙ next.log

  done : finished new.engine ≡ place + 1
  done = omega (arith, ap finished rest, next.ends, at)

  -- the place is the next one of the log
  before : place ≡ old.reported
  before = omega (arith, at, none_waits plan old room none, room.filling.steady.counted, ap places_in none)

  counts : length new.engine.log.statements ≡ place + 1
  counts =
      omega (
        arith,
        ap (λ (l : Accepted). length l.statements) log-is,
        at,
        none_waits plan old room none,
        length-append old.engine.log.statements (numbered old.engine.log.names sentence ∷ []),
      )

  number : next_line new ≡ next_line old + 1
  number = omega (arith, lines, ap length left, ap length none)

  -- its line is the only one that is reported
  line-is : old.waiting.items ++ line_outcome old.engine.log.names (read sentence) ∷ [] ≡ LineOutcome.Accepted ∷ []
  line-is =
      ap (λ (ls : List LineOutcome). ls ++ line_outcome old.engine.log.names (read sentence) ∷ []) none
      ∙ ap (λ (l : LineOutcome). l ∷ []) (sym (known_became old.engine.log.names sentence foretold.passes))

  single_deals : Deals (read sentence) old new
  single_deals = record {
    log = log-is ∙ known_log old.engine.log sentence foretold.passes;
    number = number;
    reports = record {
      out = LineOutcome.Accepted ∷ [];
      all = line-is ∙ ap (λ (ls : List LineOutcome). LineOutcome.Accepted ∷ ls) (sym left);
      first = next_line old;
      number = omega (arith, ap length line-is, number);
      told = told
          ∙ ap (λ (xs : List ℕ). old.pending.items ++ xs)
          (ap (place_text new.engine.log.statements new.engine.log.names) before
          ∙ sym (append-nil (place_text new.engine.log.statements new.engine.log.names old.reported)));
      places = omega (arith, reported, before);
    };
  }

  single_room : IsOpen plan new
  single_room =
      let some : 0 < plan.settings.batch = (limits plan.settings room.filling.steady.within).batch_some in
      record {
        filling = record {
          whole = whole;
          steady = record {
            within = room.filling.steady.within;
            counted = omega (arith, reported, counts, ap places_in left);
            ran = ran_all plan.cut new.reported new.engine (omega (arith, reported, done)) (omega (arith, done, counts));
            numbered = omega (arith, number, small);
            kept = all_dropped plan.history new.reported new.engine drops
                (omega (arith, ap (λ (r : Run). r.dropped) rest, next.dropped, ap finished rest, done, reported));
            cut = subst (λ (cut : Cut). IsCutBy cut plan.settings new.engine) (sym early)
                (ends_early plan.settings new.engine place (place + 1) done mark (omega (arith, some)) (omega arith));
            swept = swept;
            most = omega (arith, reported, counts);
          };
        };
        less = omega (arith, reported, counts, some);
      }

  -- so the line was dealt with, and a further one has room
  pub single_dealt : Deals (read sentence) old new × IsOpen plan new
  single_dealt = (single_deals, single_room)
