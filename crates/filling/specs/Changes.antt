-- What the places of a finished batch change in a book of grants. Each grant keeps the place at which it ended, after R. Fagin, "On
-- an Authorization Mechanism", ACM Transactions on Database Systems 3 (1978).
use Rattle.std.specs.Prelude.{◌≡◌, ◌<◌, ◌+◌, ℕ, All, List, [], length, map, slice_get}
use Rattle.std.specs.List.{flat_map, range_with_len}
use Rattle.std.specs.Option.{option_map_or}
use Rattle.model_base.specs.declared.deed.Grant.{Grant}
use Rattle.model_base.specs.declared.statement.Statement.{Statement}
use Rattle.model_base.specs.Outcomes.{creator}
use Rattle.grants_base.specs.Book.{Entries, IsSoundBook, cut_book, extended}
use Rattle.grants_base.specs.declared.entries.Creation.{Creation}
use Rattle.grants_base.specs.declared.entries.End.{End}
use Rattle.filling.specs.BookState.{IsBookState}

-- the table that a user creates at a place
abbrev pub creation_at : ℕ → ℕ → Creation
creation_at place owner = record { owner = owner; place = place }

-- the table that a place of a log creates, if it creates one
abbrev pub creations_at : List Statement → ℕ → List Creation
creations_at log place =
    option_map_or (λ (s : Statement). map (creation_at place) (creator s.user s.form)) (slice_get log place) []

-- this many places of a log from the first on create these tables, make these grants and end these records of the book before them: the
-- book with all of them shows the deeds before the next place, and cut at the first place it is the book before
pub record AreChanges (log : List Statement) (first count : ℕ) (book : Entries) (tables : List Creation) (grants : List Grant)
    (ends : List End) : Type 0 where
  pub created : tables ≡ flat_map (creations_at log) (range_with_len first count)
  pub slots : All (λ (end : End). end.slot < length book.records + length grants) ends
  pub stands : IsBookState log (first + count) (extended book tables grants ends)
  pub sound : IsSoundBook (extended book tables grants ends)
  pub before : cut_book first (extended book tables grants ends) ≡ cut_book first book
