-- A statement that was foretold becomes the next place, and is run from where it stays.
use Rattle.std.proofs.Common.{◌≡◌, ◌<◌, ◌+◌, ◌++◌, ◌∷◌, [], ℕ, List, Some, length, refl, ap, sym, ◌∙◌, subst, arith}
use Rattle.std.specs.Prelude.{slice_get}
use Rattle.std.proofs.lemmas.List.{append-nil, length-append, nil_from_length}
use Rattle.model_base.specs.declared.limits.TheConstants.{MOST_PLACES}
use Rattle.model_base.specs.declared.outcome.Outcome.{Outcome}
use Rattle.model_base.specs.declared.row.Key.{Key}
use Rattle.model_base.specs.declared.statement.Statement.{Statement}
use Rattle.model_base.specs.Growing.{NeedsOwnTables}
use Rattle.model_base.specs.Outcomes.{outcome}
use Rattle.chains.specs.Store.{of_key, versions_at}
use Rattle.log_text.specs.Statement.{IsInGrammar, Sentence}
use Rattle.sequencer.specs.Catalog.{Names}
use Rattle.sequencer.specs.Foretelling.{IsForetold, with_one_place}
use Rattle.sequencer.specs.Log.{Accepted, with_accepted}
use Rattle.sequencer.specs.Tail.{Tail}
use Rattle.sequencer.specs.Whole.{IsAccepted, IsWhole}
use Rattle.sequencer.proofs.WholeLogs.{foretold_accepted, taken_after}
use Rattle.filling.specs.Finished.{AreOutcomes}
use Rattle.filling.proofs.Ranges.{outcomes_more}
use Rattle.engine.specs.Engine.{IsRun, IsRunKept, Run, RunsNext}
use Rattle.engine.specs.RunState.{IsRunState}
use Rattle.engine.specs.Running.{IsNextPlace}
use Rattle.engine.specs.declared.state.RunState.{RunState}
use Rattle.engine.proofs.Advanced.{run_in}
use Rattle.engine.proofs.Pushed.{one-more, run_of}

last_is : {X : Type 0} (xs : List X) (x : X) → slice_get (xs ++ x ∷ []) (length xs) ≡ Some x
last_is [] x = refl
last_is (y ∷ ys) x = last_is ys x

-- the log with the statement
abbrev pub with_foretold : Accepted → Statement → Accepted
with_foretold log statement = record { names = with_one_place log.names; statements = log.statements ++ statement ∷ [] }

module _ (tail : Tail) (state : RunState) (past kept : List Outcome) (is : IsRunKept (run_in tail state past kept) past) (whole : IsWhole tail.log)
    (own : NeedsOwnTables tail.log.statements) (none : tail.dropped ≡ length tail.log.statements)
    (sentence : Sentence) (statement : Statement) (foretold : IsForetold tail.log.names sentence statement) where
  abbrev after : Accepted
  after = with_foretold tail.log statement

  abbrev place : ℕ
  place = length tail.log.statements

  all : length (past ++ kept) ≡ place
  all = omega (arith, is.is.within, is.is.dropped, none)

  grown : IsRun (run_of state.chains state.book (past ++ kept) tail.dropped after)
  grown =
      subst (λ (log : Accepted). IsRun (run_of state.chains state.book (past ++ kept) tail.dropped log)) (sym (foretold_accepted tail.log sentence statement foretold))
      (one-more tail state.chains state.book (past ++ kept) is.is whole own sentence foretold.passes)

  pub next_place : IsInGrammar sentence → place < MOST_PLACES → IsNextPlace after place statement state.chains state.book
  next_place grammar few = record {
    few = few;
    at = last_is tail.log.statements statement;
    taken = subst (λ (names : Names). IsAccepted names statement) foretold.names
        (subst (IsAccepted _) (sym foretold.ok) (taken_after tail.log.names sentence grammar foretold.passes));
    known = grown.known;
    named = grown.named;
    stands = subst (λ (n : ℕ). IsRunState after.statements n state.chains state.book) all grown.stands;
  }

  module _ (new : RunState) (found : Outcome) (came : outcome after.statements place ≡ Some found)
      (stands : IsRunState after.statements (place + 1) new.chains new.book)
      (versions : (key : Key) → of_key key new.chains.versions ≡ of_key key (state.chains.versions ++ versions_at after.statements place))
      (mark : new.chains.mark ≡ state.chains.mark)
      (then : Tail) (passed : then ≡ record { log = with_accepted tail.log sentence; dropped = tail.dropped + 1 }) where
    abbrev later : List Outcome
    later = past ++ found ∷ []

    -- the run with it
    abbrev pub run_then : Run
    run_then = run_in then new later kept

    empty : kept ≡ []
    empty = nil_from_length kept (omega (arith, all, is.same, none, length-append past kept))

    outcomes : later ++ kept ≡ (past ++ kept) ++ found ∷ []
    outcomes =
        ap (λ (ks : List Outcome). later ++ ks) empty
        ∙ append-nil later
        ∙ ap (λ (os : List Outcome). os ++ found ∷ []) (sym (append-nil past))
        ∙ ap (λ (ks : List Outcome). (past ++ ks) ++ found ∷ []) (sym empty)

    count : length (later ++ kept) ≡ place + 1
    count = ap length outcomes ∙ omega (arith, all, length-append (past ++ kept) (found ∷ []))

    log_is : then.log ≡ after
    log_is = ap (λ (t : Tail). t.log) passed ∙ sym (foretold_accepted tail.log sentence statement foretold)

    told : AreOutcomes after.statements 0 (place + 1) (later ++ kept)
    told =
        let here : place ≡ 0 + place = omega arith in
        subst (λ (os : List Outcome). AreOutcomes after.statements 0 (place + 1) os) (sym outcomes)
        (outcomes_more after.statements 0 place (past ++ kept) found (subst (λ (n : ℕ). AreOutcomes after.statements 0 n (past ++ kept)) all grown.came)
        (subst (λ (n : ℕ). outcome after.statements n ≡ Some found) here came))

    -- what was dropped is one place more
    dropped : then.dropped ≡ place + 1
    dropped = ap (λ (t : Tail). t.dropped) passed ∙ ap (λ (n : ℕ). n + 1) none

    pub kept_then : IsRunKept run_then later
    kept_then =
        let run : IsRun (run_of new.chains new.book (later ++ kept) then.dropped after) = record {
          within = omega (arith, count, length-append tail.log.statements (statement ∷ []));
          known = grown.known;
          named = grown.named;
          stands = subst (λ (n : ℕ). IsRunState after.statements n new.chains new.book) (sym count) stands;
          came = subst (λ (n : ℕ). AreOutcomes after.statements 0 n (later ++ kept)) (sym count) told;
          dropped = omega (arith, dropped, count);
        } in
        record {
          is = subst (λ (log : Accepted). IsRun (run_of new.chains new.book (later ++ kept) then.dropped log)) (sym log_is) run;
          same = omega (arith, dropped, none, is.same, length-append past (found ∷ []));
        }

    pub runs_then : (old : Run) → run_in tail state past kept ≡ old → RunsNext sentence found old run_then
    runs_then old seen =
        subst (λ (run : Run). RunsNext sentence found run run_then) seen
        (record {
          log = ap (λ (t : Tail). t.log) passed;
          ends = count ∙ ap (λ (n : ℕ). n + 1) (sym all);
          came = subst (λ (n : ℕ). outcome then.log.statements n ≡ Some found) (sym all)
              (subst (λ (log : Accepted). outcome log.statements place ≡ Some found) (sym log_is) came);
          versions = λ key.
              subst (λ (n : ℕ). of_key key new.chains.versions ≡ of_key key (state.chains.versions ++ versions_at then.log.statements n)) (sym all)
              (subst (λ (log : Accepted). of_key key new.chains.versions ≡ of_key key (state.chains.versions ++ versions_at log.statements place)) (sym log_is)
              (versions key));
          mark = mark;
          dropped = dropped ∙ sym count;
        })
