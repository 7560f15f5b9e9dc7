-- What a book of grants shows: the tables, and each grant that was made, with its end.
use Rattle.std.specs.Prelude.{◌≡◌, ◌<◌, ◌≤◌, ◌&&◌, ◌++◌, ◌∷◌, ℕ, zero, suc, Bool, true, nat_lt, Option, Some, None, List, [], All, IfSome, filter, length, map, slice_get, if◌then◌else◌}
use Rattle.std.specs.Option.{option_map_or}
use Rattle.model_base.specs.declared.limits.TheConstants.{MOST_NAMES}
use Rattle.model_base.specs.declared.deed.Grant.{Grant}
use Rattle.model_base.specs.declared.deed.Record.{Record}
use Rattle.model_base.specs.declared.deed.Deed.{Deed}
use Rattle.model_base.specs.declared.deed.Deed.TheVariants.{Granting, Revoking}
use Rattle.model_base.specs.Privileges.{IsProper}
use Rattle.model_base.specs.Ranks.{rank}
use Rattle.model_base.specs.Laws.{IsRising}
use Rattle.model_base.specs.Records.{cut, end_below, ended_at, recorded, records}
use Rattle.grants_base.specs.View.{View, AreAuthorised}
use Rattle.grants_base.specs.declared.entries.Creation.{Creation}
use Rattle.grants_base.specs.declared.entries.End.{End}

-- the tables in the order of their creation, and the records of the grants with their ends, in order
pub record Entries : Type 0 where
  pub tables : List Creation
  pub records : List Record

-- the owner of each table
abbrev pub owners_of : List Creation → List ℕ
owners_of tables = map (λ (creation : Creation). creation.owner) tables

-- the places at which the tables were created rise
abbrev pub AreRising : List Creation → Type 0
AreRising [] = Unit {0}
AreRising (creation ∷ tables) = All (λ (later : Creation). creation.place < later.place) tables × AreRising tables

-- the table is there, and was created below the place
abbrev pub IsCreatedBelow : ℕ → Option Creation → Type 0
IsCreatedBelow place None = ⊥
IsCreatedBelow place (Some creation) = creation.place < place

-- the table of each grant was created below the grant's place
abbrev pub AreCreatedFirst : Entries → Type 0
AreCreatedFirst book = All (λ (entry : Record). IsCreatedBelow entry.grant.place (slice_get book.tables entry.grant.table)) book.records

-- what holds of each book
pub record IsSoundBook (book : Entries) : Type 0 where
  pub few : length book.tables ≤ MOST_NAMES
  pub tables : AreRising book.tables
  pub rising : IsRising (recorded book.records)
  pub ends : All (λ (entry : Record). IfSome entry.end (λ end. entry.grant.place < end)) book.records
  pub created : AreCreatedFirst book
  pub authorised : AreAuthorised (slice_get (owners_of book.tables)) [] book.records

-- the place lies above those of all tables, grants and ends of the book
pub record IsLater (book : Entries) (place : ℕ) : Type 0 where
  pub tables : All (λ (creation : Creation). creation.place < place) book.tables
  pub grants : All (λ (entry : Record). entry.grant.place < place) book.records
  pub ends : All (λ (entry : Record). IfSome entry.end (λ end. end < place)) book.records

-- the grant may be the next record of the book: its rank lies above those of all grants, so these may have its place, and its place above
-- those of all tables and ends
pub record IsNextRecord (book : Entries) (grant : Grant) : Type 0 where
  pub tables : All (λ (creation : Creation). creation.place < grant.place) book.tables
  pub grants : All (λ (entry : Record). rank entry.grant < rank grant) book.records
  pub ends : All (λ (entry : Record). IfSome entry.end (λ end. end < grant.place)) book.records

-- the record of a grant that has no end
abbrev pub unended : Grant → Record
unended grant = record { grant = grant; end = None }

-- the book with one more table
abbrev pub with_table : Entries → Creation → Entries
with_table book creation = record { tables = book.tables ++ creation ∷ []; records = book.records }

-- the book with one more grant, which has no end
abbrev pub with_grant : Entries → Grant → Entries
with_grant book grant = record { tables = book.tables; records = book.records ++ unended grant ∷ [] }

-- the book with the grants of these ranks ended at a place
abbrev pub with_ends : Entries → ℕ → List ℕ → Entries
with_ends book place ended = record { tables = book.tables; records = map (ended_at place ended) book.records }

-- the records, of which that of a slot ends at a place
abbrev pub end_slot : List Record → ℕ → ℕ → List Record
end_slot [] slot place = []
end_slot (entry ∷ entries) zero place = record { grant = entry.grant; end = Some place } ∷ entries
end_slot (entry ∷ entries) (suc slot) place = entry ∷ end_slot entries slot place

-- the records with these ends, one after the other
abbrev pub end_slots : List Record → List End → List Record
end_slots entries [] = entries
end_slots entries (first ∷ ends) = end_slots (end_slot entries first.slot first.place) ends

-- the book with more tables and grants, and then with these ends
abbrev pub extended : Entries → List Creation → List Grant → List End → Entries
extended book tables grants ends = record {
  tables = book.tables ++ tables;
  records = end_slots (book.records ++ map unended grants) ends;
}

-- the book as it was at a place: what was created, made and ended below it
abbrev pub cut_book : ℕ → Entries → Entries
cut_book place book = record {
  tables = filter (λ (creation : Creation). nat_lt creation.place place) book.tables;
  records = cut place book.records;
}

-- the record as it was at a place above its grant's: its end counts only if it lies below
abbrev pub reopened : ℕ → Record → Record
reopened place entry = record { grant = entry.grant; end = end_below place entry.end }

-- whether the grant and its end lie below the place
abbrev pub lies_below : ℕ → Record → Bool
lies_below place entry = nat_lt entry.grant.place place && option_map_or (λ end. nat_lt end place) entry.end true

-- the slot of a record in a view at a place: empty if the grant wasn't made below it
abbrev pub slot_below : ℕ → Record → Option Record
slot_below place entry =
    if nat_lt entry.grant.place place then Some (reopened place entry) else None

-- the view of the book at a place, which covers all its tables
abbrev pub view_of : Entries → ℕ → View
view_of book place = record {
  place = place;
  owner = slice_get (owners_of book.tables);
  slots = map (slot_below place) book.records;
}

-- the table of which the deed speaks
abbrev pub table_of_deed : Deed → ℕ
table_of_deed (Granting grant) = grant.table
table_of_deed (Revoking revocation) = revocation.table

-- the book has the owners and the records of these deeds, which speak of its tables alone; tables may be created later
pub record ShowsBook (book : Entries) (owners : List ℕ) (deeds : List Deed) : Type 0 where
  pub more : List ℕ
  pub begins : owners ≡ owners_of book.tables ++ more
  pub proper : IsProper owners deeds
  pub told : All (λ deed. table_of_deed deed < length book.tables) deeds
  pub same : book.records ≡ records owners deeds

-- more deeds continue some deeds, on these tables, whose owners come first: the records of all are those of the first deeds with these
-- grants after them, and then with these ends
pub record Continues (owners : List ℕ) (deeds more : List Deed) (tables : List Creation) (grants : List Grant)
    (ends : List End) : Type 0 where
  pub later : List ℕ
  pub begins : owners ≡ owners_of tables ++ later
  pub proper : IsProper owners (deeds ++ more)
  pub told : All (λ deed. table_of_deed deed < length tables) more
  pub same : records owners (deeds ++ more) ≡ end_slots (records owners deeds ++ map unended grants) ends
