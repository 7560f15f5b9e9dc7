-- One batch more.
use Rattle.std.proofs.Common.{◌≡◌, ◌<◌, ◌≤◌, ◌+◌, ◌-◌, ◌++◌, ℕ, zero, suc, List, [], ◌∷◌, Some, get_or, length, map, refl, ap, sym, ◌∙◌, subst, arith, append_assoc}
use Rattle.std.specs.Prelude.{IfSome, Ok}
use Rattle.std.specs.List.{range_with_len}
use Rattle.std.proofs.lemmas.List.{length-append, map-append}
use Rattle.std.proofs.lemmas.List.Elements.{All-nil}
use Rattle.model_base.specs.declared.deed.Deed.{Deed}
use Rattle.model_base.specs.declared.deed.Record.{Record}
use Rattle.model_base.specs.declared.outcome.Outcome.{Outcome}
use Rattle.model_base.specs.declared.statement.Statement.{Statement}
use Rattle.model_base.specs.Outcomes.{outcome}
use Rattle.chains.specs.Store.{IsRight, Store, of_key, versions_between}
use Rattle.grants_base.specs.Book.{Entries, table_of_deed}
use Rattle.grants_base.specs.declared.entries.Creation.{Creation}
use Rattle.sequencer.specs.Log.{Accepted, empty_log}
use Rattle.sequencer.specs.Tail.{Tail}
use Rattle.engine.specs.Known.{AreKnown, AreNamed}
use Rattle.engine.specs.RunState.{IsRunState}
use Rattle.engine.proofs.Came.{came_at, came_count}
use Rattle.filling.specs.Finished.{AreOutcomes}
use Rattle.engine.specs.Engine.{IsRunKept, IsRun, Run, RunsTo, finished}
use Rattle.engine.specs.Running.{HasRun}
use Rattle.engine.specs.declared.state.RunState.{RunState}

ranges : (first count more : ℕ) → range_with_len first (count + more) ≡ range_with_len first count ++ range_with_len (first + count) more
ranges first zero more =
    let none : 0 + more ≡ more = omega arith in
    let same : first ≡ first + 0 = omega arith in
    ap (range_with_len first) none ∙ ap (λ n. range_with_len n more) same
ranges first (suc count) more =
    let one : suc count + more ≡ suc (count + more) = omega arith in
    let same : first + 1 + count ≡ first + suc count = omega arith in
    ap (range_with_len first) one
    ∙ ap (λ ns. first ∷ ns) (ranges (first + 1) count more ∙ ap (λ n. range_with_len (first + 1) count ++ range_with_len n more) same)

both : (log : List Statement) (first count more : ℕ) (outcomes later : List Outcome) → AreOutcomes log first count outcomes → AreOutcomes log (first + count) more later
    → AreOutcomes log first (count + more) (outcomes ++ later)
both log first count more outcomes later are next =
    map-append (λ (found : Outcome). Some found) outcomes later
    ∙ ap (λ os. os ++ map (λ (found : Outcome). Some found) later) are
    ∙ ap (λ os. map (outcome log) (range_with_len first count) ++ os) next
    ∙ sym (map-append (outcome log) (range_with_len first count) (range_with_len (first + count) more))
    ∙ ap (map (outcome log)) (sym (ranges first count more))

module _ (log : Accepted) (outcomes later all : List Outcome) (end : ℕ) (is : all ≡ outcomes ++ later)
    (less : length outcomes ≤ end) (next : AreOutcomes log.statements (length outcomes) (end - length outcomes) later) where
  pub ends_at : length all ≡ end
  ends_at =
      let count = came_count log.statements (length outcomes) (end - length outcomes) later next in
      ap length is ∙ omega (arith, length-append outcomes later, count, less)

  pub came_to : AreOutcomes log.statements 0 (length outcomes) outcomes → AreOutcomes log.statements 0 end all
  came_to came =
      let start = length outcomes in
      let sum : start + (end - start) ≡ end = omega (arith, less) in
      let zero-first : start ≡ 0 + start = omega arith in
      subst (λ (os : List Outcome). AreOutcomes log.statements 0 end os) (sym is)
      (subst (λ (n : ℕ). AreOutcomes log.statements 0 n (outcomes ++ later)) sum
      (both log.statements 0 start (end - start) outcomes later came (subst (λ (n : ℕ). AreOutcomes log.statements n (end - start) later) zero-first next)))

  pub advanced : (store : Store) (book : Entries) (dropped : ℕ) → dropped ≤ length outcomes → end ≤ length log.statements → AreKnown log.statements → AreNamed log.statements → IsRunState log.statements end store book
      → AreOutcomes log.statements 0 (length outcomes) outcomes → IsRun (record { log = log; store = store; book = book; outcomes = all; dropped = dropped })
  advanced store book dropped low within known named stands came = record {
    within = omega (arith, ends_at, within);
    known = known;
    named = named;
    stands = subst (λ (n : ℕ). IsRunState log.statements n store book) (sym ends_at) stands;
    came = subst (λ (n : ℕ). AreOutcomes log.statements 0 n all) (sym ends_at) (came_to came);
    dropped = omega (arith, low, less, ends_at);
  }

-- the run of this state, of which these outcomes were dropped and those are kept
abbrev pub run_in : Tail → RunState → List Outcome → List Outcome → Run
run_in tail state past kept = record { log = tail.log; store = state.chains; book = state.book; outcomes = past ++ kept; dropped = tail.dropped }

-- the range from the first place that isn't finished to an end was run
module _ (tail : Tail) (before after : RunState) (past kept all : List Outcome) (run : Run) (seen : run_in tail before past kept ≡ run)
    (is : IsRunKept (run_in tail before past kept) past) (start end : ℕ) (count : start ≡ finished run) (order : finished run ≤ end)
    (within : end ≤ length run.log.statements) (has : HasRun tail.log.statements start end before after kept all) where
  abbrev later : List Outcome
  later = has.came.0

  joined : past ++ all ≡ (past ++ kept) ++ later
  joined = ap (λ os. past ++ os) has.came.1 ∙ sym (append_assoc past kept later)

  less : length (past ++ kept) ≤ end
  less = subst (λ (r : Run). finished r ≤ end) (sym seen) order

  next : AreOutcomes tail.log.statements (length (past ++ kept)) (end - length (past ++ kept)) later
  next = subst (λ (n : ℕ). AreOutcomes tail.log.statements n (end - n) later) (count ∙ ap finished (sym seen)) has.came.2

  pub kept_to : IsRunKept (run_in tail after past all) past
  kept_to = record {
    is = advanced tail.log (past ++ kept) later (past ++ all) end joined less next after.chains after.book tail.dropped is.is.dropped
        (subst (λ (r : Run). end ≤ length r.log.statements) (sym seen) within) is.is.known is.is.named has.stands is.is.came;
    same = is.same;
  }

  pub runs_to : {E : Type 0} → RunsTo {E = E} end (Ok tt) run (run_in tail after past all)
  runs_to = record {
    ends = ends_at tail.log (past ++ kept) later (past ++ all) end joined less next;
    stands = has.stands;
    came = came_to tail.log (past ++ kept) later (past ++ all) end joined less next is.is.came;
    versions = λ key.
        has.versions key ∙ (λ i. of_key key ((seen i).store.versions ++ versions_between tail.log.statements (count i) end));
    mark = has.mark ∙ ap (λ (r : Run). r.store.mark) seen;
    log = ap (λ (r : Run). r.log) seen;
    dropped = ap (λ (r : Run). r.dropped) seen;
    err = tt;
  }

-- the outcome of a finished place
pub finished_at : (run : Run) → IsRun run → (place : ℕ) (found : Outcome) → place < finished run → found ≡ get_or run.outcomes place found
    → outcome run.log.statements place ≡ Some found
finished_at run is place found less here =
    let same : 0 + place ≡ place = omega arith in
    subst (λ (n : ℕ). outcome run.log.statements n ≡ Some found) same (came_at run.log.statements 0 (finished run) run.outcomes is.came place found less here)

-- versions that were trimmed or swept stand as before
pub stands_left : (log : List Statement) (place : ℕ) (old new : Store) (book : Entries) → IsRunState log place old book → new.end ≡ old.end → (IsRight log old → IsRight log new)
    → IsRunState log place new book
stands_left log place old new book stands end right = record { ends = end ∙ stands.ends; right = right stands.right; booked = stands.booked }

-- so does a run whose versions were
pub run_left : (run : Run) (new : Store) → IsRun run → new.end ≡ run.store.end → (IsRight run.log.statements run.store → IsRight run.log.statements new)
    → IsRun (record run { store = new })
run_left run new is end right = record {
  within = is.within;
  known = is.known;
  named = is.named;
  stands = stands_left run.log.statements (finished run) run.store new run.book is.stands end right;
  came = is.came;
  dropped = is.dropped;
}

-- at first nothing is finished
pub run_start : (log : Accepted) (store : Store) (book : Entries) (outcomes : List Outcome) → log ≡ empty_log → store.end ≡ 0 → ((one : List Statement) → IsRight one store)
    → book.tables ≡ [] → book.records ≡ [] → outcomes ≡ [] → IsRun (record { log = log; store = store; book = book; outcomes = outcomes; dropped = 0 })
run_start log store book outcomes none ends right tables records nothing =
    let empty : Entries = record { tables = []; records = [] } in
    let book_is : book ≡ empty = ap (λ (ts : List Creation). record { tables = ts; records = book.records }) tables ∙ ap (λ (rs : List Record). record { tables = []; records = rs }) records in
    let start : IsRun (record { log = empty_log; store = store; book = empty; outcomes = []; dropped = 0 }) = record {
      within = omega arith;
      known = tt;
      named = tt;
      stands = record {
        ends = ends;
        right = right [];
        booked = record {
          shown = record { more = []; begins = refl; proper = tt; told = All-nil (λ (deed : Deed). table_of_deed deed < 0); same = refl };
          later = record {
            tables = All-nil (λ (creation : Creation). creation.place < 0);
            grants = All-nil (λ (entry : Record). entry.grant.place < 0);
            ends = All-nil (λ (entry : Record). IfSome entry.end (λ end. end < 0));
          };
          owned = refl;
        };
      };
      came = refl;
      dropped = omega arith;
    } in
    subst (λ (l : Accepted). IsRun (record { log = l; store = store; book = book; outcomes = outcomes; dropped = 0 })) (sym none)
    (subst (λ (b : Entries). IsRun (record { log = empty_log; store = store; book = b; outcomes = outcomes; dropped = 0 })) (sym book_is)
    (subst (λ (os : List Outcome). IsRun (record { log = empty_log; store = store; book = empty; outcomes = os; dropped = 0 })) (sym nothing) start))

-- and nothing was dropped
pub kept_start : (tail : Tail) (store : Store) (book : Entries) (past outcomes : List Outcome) → tail ≡ record { log = empty_log; dropped = 0 } → store.end ≡ 0
    → ((one : List Statement) → IsRight one store) → book.tables ≡ [] → book.records ≡ [] → past ≡ [] → outcomes ≡ []
    → IsRunKept (record { log = tail.log; store = store; book = book; outcomes = past ++ outcomes; dropped = tail.dropped }) past
kept_start tail store book past outcomes none ends right tables records nothing no_outcomes =
    let P : Tail → List Outcome → Type 0 = λ t p. IsRunKept (record { log = t.log; store = store; book = book; outcomes = p ++ outcomes; dropped = t.dropped }) p in
    subst (λ (t : Tail). P t past) (sym none) (subst (P (record { log = empty_log; dropped = 0 })) (sym nothing)
    (record { is = run_start empty_log store book outcomes refl ends right tables records no_outcomes; same = refl }))
