-- The book of the grants before a place of a log.
use Rattle.std.specs.Prelude.{◌≡◌, ◌<◌, ◌+◌, ◌++◌, ℕ, Bool, true, false, All, List, length, take}
use Rattle.model_base.specs.declared.deed.Deed.{Deed}
use Rattle.model_base.specs.declared.deed.Grant.{Grant}
use Rattle.model_base.specs.declared.outcome.Outcome.{Outcome}
use Rattle.model_base.specs.declared.statement.Statement.{Statement}
use Rattle.model_base.specs.Laws.{IsGranting}
use Rattle.model_base.specs.Outcomes.{deeds_before, owners}
use Rattle.model_base.specs.Privileges.{place_of}
use Rattle.model_base.specs.Ranks.{deed_number, rank}
use Rattle.grants_base.specs.Book.{Entries, IsLater, IsNextRecord, ShowsBook, owners_of, table_of_deed}

-- the book has the tables that were created before the place and shows the deeds before it, and nothing later
pub record IsBookState (log : List Statement) (place : ℕ) (book : Entries) : Type 0 where
  pub shown : ShowsBook book (owners log) (deeds_before log place)
  pub later : IsLater book place
  pub owned : owners_of book.tables ≡ owners (take place log)

-- the book has the deeds before the place and some that the place makes, and nothing later; those that are left are grants of the place on
-- its tables
pub record IsMaking (log : List Statement) (place : ℕ) (left : List Deed) (book : Entries) : Type 0 where
  pub made : List Deed
  pub all : deeds_before log (place + 1) ≡ made ++ left
  pub shown : ShowsBook book (owners log) made
  pub later : IsLater book (place + 1)
  pub owned : owners_of book.tables ≡ owners (take (place + 1) log)
  pub grants : All IsGranting left
  pub at : All (λ deed. place_of deed ≡ place) left
  pub tables : All (λ deed. table_of_deed deed < length book.tables) left
  -- a grant of the place whose rank lies above all that was made may be the next
  pub next : (grant : Grant) → grant.place ≡ place → All (λ deed. deed_number deed < rank grant) made → IsNextRecord book grant

-- whether the outcome is that of a completed transaction
abbrev pub is_completed : Outcome → Bool
is_completed (Outcome.Done outputs deed) = true
is_completed Outcome.Created = false
is_completed (Outcome.Denied need cause) = false
is_completed (Outcome.Aborted step reason) = false
is_completed (Outcome.Undeclared step) = false
