-- A log of which a beginning is finished, batch by batch. BOHM works in batches too: a batch is placed as a whole before it is run, and
-- what comes after it is what the next one finds (J. M. Faleiro and D. J. Abadi, "Rethinking Serializable Multiversion Concurrency
-- Control", PVLDB 8, 2015, section 3). That each place is counted as finished with its whole batch is this project's own.
use Rattle.std.specs.Prelude.{◌≡◌, ◌==◌, ◌&&◌, ◌≤◌, ◌+◌, ◌-◌, ◌++◌, ℕ, Bool, List, OnErr, OnOk, Result, Some, length, nat_le, nat_lt}
use Rattle.model_base.specs.declared.limits.TheConstants.{MOST_BATCH_STATEMENTS, MOST_PARTITIONS, MOST_WORKERS}
use Rattle.model_base.specs.Outcomes.{outcome}
use Rattle.model_base.specs.declared.outcome.Outcome.{Outcome}
use Rattle.model_base.specs.declared.row.Key.{Key}
use Rattle.chains.specs.Store.{Store, of_key, versions_at, versions_between}
use Rattle.grants_base.specs.Book.{Entries}
use Rattle.log_text.specs.Statement.{Sentence}
use Rattle.sequencer.specs.Log.{Accepted, with_accepted}
use Rattle.engine.specs.declared.crew.Crew.{Crew}
use Rattle.engine.specs.Known.{AreKnown, AreNamed}
use Rattle.engine.specs.RunState.{IsRunState}
use Rattle.filling.specs.Finished.{AreOutcomes}

-- the log, the versions of rows, the book of grants, the outcomes of the places that are finished, and of how many of the first of
-- these neither statement nor outcome is kept
pub record Run : Type 0 where
  pub log : Accepted
  pub store : Store
  pub book : Entries
  pub outcomes : List Outcome
  pub dropped : ℕ

-- how many places are finished
abbrev pub finished : Run → ℕ
finished run = length run.outcomes

-- versions and book are before the first place that isn't finished, the outcomes are the log's, only of finished places statement and
-- outcome were dropped, and what a statement needs is on earlier tables
pub record IsRun (run : Run) : Type 0 where
  pub within : finished run ≤ length run.log.statements
  pub known : AreKnown run.log.statements
  pub named : AreNamed run.log.statements
  pub stands : IsRunState run.log.statements (finished run) run.store run.book
  pub came : AreOutcomes run.log.statements 0 (finished run) run.outcomes
  pub dropped : run.dropped ≤ finished run

-- so it is, and as many outcomes were dropped as statements
pub record IsRunKept (run : Run) (past : List Outcome) : Type 0 where
  pub is : IsRun run
  pub same : length past ≡ run.dropped

-- whether the range may be run as the next batch, by this many workers and placers: it begins where the finished places end, lies in the
-- log, and has 1 to `MOST_BATCH_STATEMENTS` places; and there are 1 to `MOST_WORKERS` workers and 1 to `MOST_PARTITIONS` partitions
abbrev pub may_run : Run → ℕ → ℕ → Crew → Bool
may_run run first end crew =
    (first == finished run)
    && (nat_lt first end && nat_le end (length run.log.statements) && nat_le (end - first) MOST_BATCH_STATEMENTS)
    && (nat_le 1 crew.workers && nat_le crew.workers MOST_WORKERS)
    && (nat_le 1 crew.partitions && nat_le crew.partitions MOST_PARTITIONS)

-- a call runs the places before an end: these are finished, versions and book are those before the end, and the outcomes are the log's; each
-- key has gained a version for each write that a place declares, whatever its outcome; the rows are kept from the same place on, and log and
-- statements stay; or the call fails, and the run is as it was
pub record RunsTo {E : Type 0} (end : ℕ) (result : Result (Unit {0}) E) (old new : Run) : Type 0 where
  pub ends : OnOk result (finished new ≡ end)
  pub stands : OnOk result (IsRunState new.log.statements end new.store new.book)
  pub came : OnOk result (AreOutcomes new.log.statements 0 end new.outcomes)
  pub versions :
      OnOk result ((key : Key) → of_key key new.store.versions
      ≡ of_key key (old.store.versions ++ versions_between new.log.statements (finished old) end))
  pub mark : OnOk result (new.store.mark ≡ old.store.mark)
  pub log : new.log ≡ old.log
  pub dropped : new.dropped ≡ old.dropped
  pub err : OnErr result (new ≡ old)

-- a sentence that was foretold became the next place and was run: its outcome is the log's, and neither its statement nor its outcome is kept;
-- each key has gained a version for each write that it declares, whatever its outcome; the rows are kept from the same place on
pub record RunsNext (sentence : Sentence) (found : Outcome) (old new : Run) : Type 0 where
  pub log : new.log ≡ with_accepted old.log sentence
  pub ends : finished new ≡ finished old + 1
  pub came : outcome new.log.statements (finished old) ≡ Some found
  pub versions :
      (key : Key) → of_key key new.store.versions
      ≡ of_key key (old.store.versions ++ versions_at new.log.statements (finished old))
  pub mark : new.store.mark ≡ old.store.mark
  pub dropped : new.dropped ≡ finished new
