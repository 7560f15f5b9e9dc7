-- What is before a place of a log: the book of the grants, and the versions of the rows.
use Rattle.std.specs.Prelude.{◌≡◌, ◌<◌, ◌+◌, ◌++◌, ℕ, Some, true, All, List, length, slice_get, take}
use Rattle.model_base.specs.declared.deed.Deed.{Deed}
use Rattle.model_base.specs.declared.statement.Statement.{Statement}
use Rattle.model_base.specs.Laws.{AreGrantsOrRevocation}
use Rattle.model_base.specs.Outcomes.{deeds_before, owners}
use Rattle.model_base.specs.Privileges.{place_of}
use Rattle.chains.specs.Store.{IsRight, Store}
use Rattle.own_words.specs.Words.{creates}
use Rattle.grants_base.specs.Book.{Entries, table_of_deed}
use Rattle.engine.specs.Known.{AreKnown}
pub use Rattle.filling.specs.BookState.{IsBookState, IsMaking, is_completed}

-- the versions go up to the place and give the rows, and the book is that of the place
pub record IsRunState (log : List Statement) (place : ℕ) (store : Store) (book : Entries) : Type 0 where
  pub ends : store.end ≡ place
  pub right : IsRight log store
  pub booked : IsBookState log place book

-- the book has the deeds before the place, and these are the deeds that the place makes: grants on known tables, or one revocation
pub record AreOwnDeeds (log : List Statement) (place : ℕ) (deeds : List Deed) (book : Entries) : Type 0 where
  pub stands : IsBookState log place book
  pub next : deeds_before log (place + 1) ≡ deeds_before log place ++ deeds
  pub owners : owners (take (place + 1) log) ≡ owners (take place log)
  pub at : All (λ deed. place_of deed ≡ place) deeds
  pub one : AreGrantsOrRevocation deeds
  pub tables : All (λ deed. table_of_deed deed < length book.tables) deeds

-- the place has this statement, which creates a table that isn't in the book yet
pub record IsCreating (log : List Statement) (place : ℕ) (statement : Statement) (book : Entries) : Type 0 where
  pub stands : IsBookState log place book
  pub known : AreKnown log
  pub at : slice_get log place ≡ Some statement
  pub form : creates statement.form ≡ true
