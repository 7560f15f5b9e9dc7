-- Names and tables that are learned one after another from those of a later place.
use Rattle.std.proofs.Common.{◌≡◌, ℕ, ◌+◌, false, List, [], ◌∷◌, ◌++◌, take, slice_get, Some, refl, ap, ◌∙◌}
use Rattle.std.proofs.lemmas.List.{take_more}
use Rattle.std.proofs.lemmas.Option.{get_or_from_slice_get, slice_get_within}
use Rattle.log_text.specs.declared.version.Version.{Version}
use Rattle.sequencer.specs.Names.{is_known, with_name}
use Rattle.sequencer.specs.Catalog.{Names}
use Rattle.sequencer.specs.Foretelling.{with_tables_of}

-- one more of a list
next_taken : {X : Type 0} (xs : List X) (index : ℕ) (x : X) → slice_get xs index ≡ Some x → take (index + 1) xs ≡ take index xs ++ x ∷ []
next_taken {X} xs index x at =
    take_more xs index x (slice_get_within xs index x at)
    ∙ ap (λ (y : X). take index xs ++ y ∷ []) (get_or_from_slice_get xs index x x at)

-- a name that none before it is goes after them
pub learned_name : (names later new : List (List ℕ)) (index : ℕ) (name : List ℕ) → names ≡ take index later → slice_get later index ≡ Some name
    → is_known (take index later) name ≡ false → new ≡ with_name names name → new ≡ take (index + 1) later
learned_name names later new index name first at unknown added = rw (added, first, unknown, next_taken later index name at) refl

-- so does an owner, and a number of columns
pub learned_number : (numbers later new : List ℕ) (index number : ℕ) → numbers ≡ take index later → slice_get later index ≡ Some number
    → new ≡ numbers ++ number ∷ [] → new ≡ take (index + 1) later
learned_number numbers later new index number first at pushed = rw (pushed, first, next_taken later index number at) refl

-- the names with what was learned
pub learned_table : (names later : Names) (count : ℕ) (users tables : List (List ℕ)) (owners columns : List ℕ) (places : ℕ) (version : Version)
    → users ≡ names.users → tables ≡ take count later.tables → owners ≡ take count later.owners → columns ≡ take count later.columns → places ≡ names.places → version ≡ names.version
    → record { users = users; tables = tables; owners = owners; columns = columns; places = places; version = version } ≡ with_tables_of names later count
learned_table names later count users tables owners columns places version same_users same_tables same_owners same_columns same_places same_version = λ i. record {
  users = same_users i;
  tables = same_tables i;
  owners = same_owners i;
  columns = same_columns i;
  places = same_places i;
  version = same_version i;
}
