-- The versions of rows over many batches. BOHM keeps for each key the versions that transactions made, and a reader takes
-- the newest one that is older than itself (J. M. Faleiro and D. J. Abadi, "Rethinking Serializable Multiversion
-- Concurrency Control", PVLDB 8, 2015, section 3).
use Rattle.std.specs.Prelude.{◌≡◌, ◌≤◌, ◌<◌, ◌+◌, ◌-◌, ◌==◌, ◌&&◌, ◌++◌, nat_lt, ℕ, ℤ, Bool, not, Option, None, is_none, List, [], ◌∷◌, filter, fold, map, length, drop, slice_get, if◌then◌else◌}
use Rattle.std.specs.List.{flat_map, list_all, range_with_len}
use Rattle.std.specs.Option.{option_map_or}
use Rattle.model_base.specs.declared.row.Key.{Key}
use Rattle.model_base.specs.declared.statement.Access.{Access}
use Rattle.model_base.specs.declared.statement.Statement.{Statement}
use Rattle.model_base.specs.Outcomes.{rows_before}
use Rattle.model_base.specs.Rows.{Rows}
use Rattle.model_base.specs.Versions.{is_writing, writes_of}
use Rattle.chains.specs.declared.version.Version.{Version}

-- the versions, those of each key in the order of their places; the place below which the rows before a place aren't kept;
-- and the place up to which the versions go
pub record Store : Type 0 where
  pub versions : List Version
  pub mark : ℕ
  pub end : ℕ

-- whether the version is of the key and older than the place
abbrev pub is_older : ℕ → Key → Version → Bool
is_older place key version =
    nat_lt version.place place && ((version.key.table == key.table) && (version.key.row == key.row))

-- the row of the newest version of the key that is older than the place, or else this row: each such version takes the place
-- of what came before it
abbrev pub newest_or : Option (List ℤ) → List Version → ℕ → Key → Option (List ℤ)
newest_or before versions place key =
    fold (λ row (version : Version). if is_older place key version then version.row else row) before versions

-- what the store says of a key before a place: the row of the newest version that is older, or absent
abbrev pub row_in : Store → ℕ → Key → Option (List ℤ)
row_in store place key = newest_or None store.versions place key

-- the rows that the store gives at its end
abbrev pub rows_at_end : Store → Rows
rows_at_end store table row = row_in store store.end (record { table = table; row = row })

-- the store without what is of this place or a later one
abbrev pub cut_store : ℕ → Store → Store
cut_store first store = record {
  versions = filter (λ (version : Version). nat_lt version.place first) store.versions;
  mark = store.mark;
  end = first;
}

-- the versions that a place leaves, by the rows of its accesses after it: one for each access that may change its row, in order
abbrev pub versions_by : ℕ → List Access → List (Option (List ℤ)) → List Version
versions_by place [] rows = []
versions_by place (access ∷ accesses) [] = []
versions_by place (access ∷ accesses) (row ∷ rows) =
    if is_writing access
    then record { place = place; key = access.key; row = row } ∷ versions_by place accesses rows
    else versions_by place accesses rows

-- whether the version is of the key
abbrev pub is_version_of : Key → Version → Bool
is_version_of key version = (version.key.table == key.table) && (version.key.row == key.row)

-- the versions of the key, in their order
abbrev pub of_key : Key → List Version → List Version
of_key key versions = filter (is_version_of key) versions

-- the newest of the versions, alone
abbrev pub newest_alone : List Version → List Version
newest_alone versions = drop (length versions - 1) versions

-- of the versions of one key, those that are left when they are trimmed to the mark: the newest of those below it, and all
-- that aren't below it
abbrev pub trimmed : ℕ → List Version → List Version
trimmed mark versions =
    newest_alone (filter (λ (version : Version). nat_lt version.place mark) versions)
    ++ filter (λ (version : Version). not (nat_lt version.place mark)) versions

-- whether the versions of one key say nothing but that the row is absent, as if there were none: a single one, below the mark, without a
-- row
abbrev pub is_spent : ℕ → List Version → Bool
is_spent mark versions =
    (length versions == 1) && list_all (λ (version : Version). nat_lt version.place mark && is_none version.row) versions

-- of the versions of one key, those that are left when the spent ones are swept out
abbrev pub swept : ℕ → List Version → List Version
swept mark versions = if is_spent mark versions then [] else versions

-- the versions are in the order of their places, from the first place to below the end
abbrev pub AreBetween : ℕ → ℕ → List Version → Type 0
AreBetween first end [] = first ≤ end
AreBetween first end (version ∷ versions) =
    (first ≤ version.place) × (version.place < end) × AreBetween version.place end versions

-- the store has gained these versions, up to a new end: before the places from its mark to its old end it says what it said, and before
-- those from there to the new end the newest of these versions, or where none is older what it said at its old end
pub record Gains (old new : Store) (cells : List Version) (new_end : ℕ) : Type 0 where
  pub mark : new.mark ≡ old.mark
  pub end : new.end ≡ new_end
  pub kept : (place : ℕ) (key : Key) → old.mark ≤ place → place ≤ old.end → row_in new place key ≡ row_in old place key
  pub gained :
      (place : ℕ) (key : Key) → old.end ≤ place → place ≤ new_end
      → row_in new place key ≡ newest_or (row_in old old.end key) cells place key

-- the store was trimmed to the mark, and this many versions went
pub record Trims (old new : Store) (mark gone : ℕ) : Type 0 where
  pub to : new.mark ≡ mark
  pub end : new.end ≡ old.end
  pub left : (key : Key) → of_key key new.versions ≡ trimmed mark (of_key key old.versions)
  pub count : gone + length new.versions ≡ length old.versions

-- the versions that say nothing were swept out of the store, and this many they were
pub record Sweeps (old new : Store) (gone : ℕ) : Type 0 where
  pub mark : new.mark ≡ old.mark
  pub end : new.end ≡ old.end
  pub left : (key : Key) → of_key key new.versions ≡ swept old.mark (of_key key old.versions)
  pub count : gone + length new.versions ≡ length old.versions

-- the versions that a place of the log leaves, whatever its outcome: for each access that may change its row, in order, the
-- row after the place
abbrev pub versions_at : List Statement → ℕ → List Version
versions_at log place =
    map (λ (access : Access). record { place = place; key = access.key; row = rows_before log (place + 1) access.key.table access.key.row })
    (option_map_or writes_of (slice_get log place) [])

-- the versions that the places of the log from the first to below the end leave, in order
abbrev pub versions_between : List Statement → ℕ → ℕ → List Version
versions_between log first end = flat_map (versions_at log) (range_with_len first (end - first))

-- the store is right for the log: before each place from its mark to its end, each key has the row that it has by the
-- serial run
abbrev pub IsRight : List Statement → Store → Type 0
IsRight log store =
    (place : ℕ) (key : Key) → store.mark ≤ place → place ≤ store.end
    → row_in store place key ≡ rows_before log place key.table key.row
