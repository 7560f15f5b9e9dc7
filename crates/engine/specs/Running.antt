-- How a range of a log is run over what is before it. In the order of the log the versions that a transaction reads are the newest, and
-- what it writes are versions of its place: J. M. Faleiro and D. J. Abadi, "Rethinking Serializable Multiversion Concurrency Control",
-- PVLDB 8 (2015), section 3. That a place is cut off again where memory runs out is this project's own.
use Rattle.std.specs.Prelude.{◌≡◌, ◌<◌, ◌≤◌, ◌-◌, ◌++◌, ℕ, List, Some, length, slice_get}
use Rattle.model_base.specs.declared.limits.TheConstants.{MOST_PLACES}
use Rattle.model_base.specs.declared.row.Key.{Key}
use Rattle.model_base.specs.declared.outcome.Outcome.{Outcome}
use Rattle.model_base.specs.declared.statement.Statement.{Statement}
use Rattle.chains.specs.Store.{Store, cut_store, of_key, versions_between}
use Rattle.grants_base.specs.Book.{Entries, cut_book}
use Rattle.sequencer.specs.Log.{Accepted}
use Rattle.sequencer.specs.Tail.{Tail}
use Rattle.sequencer.specs.Whole.{IsAccepted}
use Rattle.engine.specs.Known.{AreKnown, AreNamed}
use Rattle.engine.specs.declared.state.RunState.{RunState}
use Rattle.engine.specs.RunState.{IsRunState}
use Rattle.filling.specs.Finished.{AreOutcomes}

-- the range lies in the log, its statements are kept, and the state is the one before it
pub record IsNextRange (tail : Tail) (first end : ℕ) (state : RunState) : Type 0 where
  pub order : first ≤ end
  pub kept : tail.dropped ≤ first
  pub within : end ≤ length tail.log.statements
  pub stands : IsRunState tail.log.statements first state.chains state.book

-- the place of the log has this statement, and the state is the one before it
pub record IsNextPlace (log : Accepted) (place : ℕ) (statement : Statement) (store : Store) (book : Entries) : Type 0 where
  pub few : place < MOST_PLACES
  pub at : slice_get log.statements place ≡ Some statement
  pub taken : IsAccepted log.names statement
  pub known : AreKnown log.statements
  pub named : AreNamed log.statements
  pub stands : IsRunState log.statements place store book

-- a place of this log whose statement is kept, and the state is the one before it
pub record IsKeptPlace (tail : Tail) (log : Accepted) (place : ℕ) (store : Store) (book : Entries) : Type 0 where
  pub same : tail.log ≡ log
  pub kept : tail.dropped ≤ place
  pub within : place < length log.statements
  pub known : AreKnown log.statements
  pub named : AreNamed log.statements
  pub stands : IsRunState log.statements place store book

-- what was added is of this place or of later ones: cut there or below, the state is what it was
pub record AddsFrom (place : ℕ) (before after : RunState) : Type 0 where
  pub mark : after.chains.mark ≡ before.chains.mark
  pub end : before.chains.end ≤ after.chains.end
  pub chains : (first : ℕ) → first ≤ place → cut_store first after.chains ≡ cut_store first before.chains
  pub book : (first : ℕ) → first ≤ place → cut_book first after.book ≡ cut_book first before.book

-- the range was run: the state is the one before its end, each key has gained the versions that the places leave, and their outcomes were
-- appended
pub record HasRun (log : List Statement) (first end : ℕ) (before after : RunState) (outcomes all : List Outcome) : Type 0 where
  pub stands : IsRunState log end after.chains after.book
  pub mark : after.chains.mark ≡ before.chains.mark
  pub versions : (key : Key) → of_key key after.chains.versions ≡ of_key key (before.chains.versions ++ versions_between log first end)
  pub came : (found : List Outcome) × (all ≡ outcomes ++ found) × AreOutcomes log first (end - first) found
