-- A book with more tables, grants and ends.
use Rattle.std.proofs.Common.{◌≡◌, ℕ, ◌<◌, List, ◌++◌, length, map, length-append, refl, sym, ◌∙◌, ap, append_assoc, arith}
use Rattle.std.specs.Prelude.{All}
use Rattle.std.proofs.lemmas.List.{length-map, map-append}
use Rattle.std.proofs.lemmas.List.Elements.{All-append, All-weaker}
use Rattle.model_base.specs.declared.deed.Grant.{Grant}
use Rattle.model_base.specs.declared.deed.Record.{Record}
use Rattle.model_base.specs.declared.deed.Deed.{Deed}
use Rattle.model_base.specs.Records.{grants_of, records}
use Rattle.model_base.proofs.Owners.{records-owners}
use Rattle.model_base.proofs.MoreOwners.{all_same-fewer, all_same-more}
use Rattle.grants_base.specs.Book.{Continues, Entries, ShowsBook, end_slots, extended, owners_of, table_of_deed, unended}
use Rattle.grants_base.specs.declared.entries.Creation.{Creation}
use Rattle.grants_base.specs.declared.entries.End.{End}
use Rattle.grants.proofs.CutLaws.{grants_on}

-- the records of deeds on some tables are the same by all owners that begin with those of the tables
pub records-begin : (tables : List Creation) (first second : List ℕ) (deeds : List Deed) → All (λ deed. table_of_deed deed < length tables) deeds
    → records (owners_of tables ++ first) deeds ≡ records (owners_of tables ++ second) deeds
records-begin tables first second deeds told =
    let base = owners_of tables in
    let owner : Creation → ℕ = λ (c : Creation). c.owner in
    let on = grants_on base deeds (All-weaker (λ deed. table_of_deed deed < length tables) (λ deed. table_of_deed deed < length base) (λ deed less. omega (arith, length-map tables owner)) deeds told) in
    records-owners (base ++ first) base deeds (all_same-more base first (grants_of deeds) on)
    ∙ records-owners base (base ++ second) deeds (all_same-fewer base second (grants_of deeds) on)

pub shows_extended : (book : Entries) (tables : List Creation) (grants : List Grant) (ends : List End) (owners others : List ℕ) (deeds more : List Deed)
    → ShowsBook book owners deeds → Continues others deeds more (book.tables ++ tables) grants ends
    → ShowsBook (extended book tables grants ends) others (deeds ++ more)
shows_extended book tables grants ends owners others deeds more shows continues =
    let On : List Creation → Deed → Type 0 = λ tables deed. table_of_deed deed < length tables in
    let owner : Creation → ℕ = λ (c : Creation). c.owner in
    let later = owners_of tables ++ continues.later in
    let begins : others ≡ owners_of book.tables ++ later =
    continues.begins ∙ ap (λ os. os ++ continues.later) (map-append owner book.tables tables) ∙ append_assoc (owners_of book.tables) (owners_of tables) continues.later in
    let stored : book.records ≡ records others deeds =
    shows.same ∙ ap (λ os. records os deeds) shows.begins ∙ records-begin book.tables shows.more later deeds shows.told ∙ ap (λ os. records os deeds) (sym begins) in
    record {
      more = continues.later;
      begins = continues.begins;
      proper = continues.proper;
      told =
          All-append (On (book.tables ++ tables)) deeds more
          (All-weaker (On book.tables) (On (book.tables ++ tables)) (λ deed less. omega (arith, length-append book.tables tables)) deeds shows.told) continues.told;
      same = ap (λ (es : List Record). end_slots (es ++ map unended grants) ends) stored ∙ sym continues.same;
    }

-- so it is with the book that a value shows
pub extended_now : (inside book : Entries) (more : List Creation) (grants : List Grant) (ends : List End) (tables : List Creation) (now : List Record) → inside ≡ book
    → tables ≡ inside.tables ++ more → now ≡ end_slots (inside.records ++ map unended grants) ends
    → record { tables = tables; records = now } ≡ extended book more grants ends
extended_now inside book more grants ends tables now same are is = rw (are, is, same) refl
