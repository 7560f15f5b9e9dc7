-- What is before a place of a log.
use Rattle.std.specs.Prelude.{◌≡◌, ℕ, List}
use Rattle.model_base.specs.declared.statement.Statement.{Statement}
use Rattle.model_base.specs.Outcomes.{deeds_before, owners}
use Rattle.grants_base.specs.Book.{ShowsBook}
use Rattle.chains.specs.Store.{IsRight}
use Rattle.log_batch.specs.declared.state_before.StateBefore.{StateBefore}

-- the versions end at the place and are those of the log, and the book shows the deeds before it
pub record IsStateBefore (log : List Statement) (place : ℕ) (before : StateBefore) : Type 0 where
  pub ends : before.chains.now.end ≡ place
  pub right : IsRight log before.chains.now
  pub book : ShowsBook before.book.now (owners log) (deeds_before log place)
