-- The versions of many keys: of each key the newest, in the entries of a map, and those that were replaced, of all keys in one queue.
use Rattle.std.specs.Prelude.{◌≡◌, ◌&&◌, ◌++◌, nat_lt, ℕ, ℤ, Bool, Option, None, List, [], ◌∷◌, filter, fold, map, not, if◌then◌else◌}
use Rattle.std.specs.List.{IsDistinct, flat_map, list_any}
use Rattle.std.specs.Map.{keys_of, lookup}
use Rattle.model_base.specs.declared.row.Key.{Key}
use Rattle.body.specs.RowMap.{key_eq}
use Rattle.chains.specs.declared.replaced.Dated.{Dated}
use Rattle.chains.specs.declared.replaced.Replaced.{Replaced}
use Rattle.chains.specs.declared.version.Version.{Version}
use Rattle.chains.specs.declared.writes.Written.{Written}
use Rattle.chains.specs.Store.{is_version_of}

-- a version of the key
abbrev pub version_at : Key → Dated → Version
version_at key dated = record { place = dated.place; key = key; row = dated.row }

-- whether the replaced version is of the key
abbrev pub is_replaced_of : Key → Replaced → Bool
is_replaced_of key one = key_eq one.key key

-- the replaced versions of the key, in their order
abbrev pub replaced_of : Key → List Replaced → List Dated
replaced_of key older = map (λ (one : Replaced). one.version) (filter (is_replaced_of key) older)

-- the versions of an entry's key: those that were replaced, and the newest
abbrev pub versions_of : List Replaced → Key × Dated → List Version
versions_of older entry = map (version_at entry.0) (replaced_of entry.0 older ++ entry.1 ∷ [])

-- the versions of each entry's key, one entry after another
abbrev pub versions_in : List Replaced → List (Key × Dated) → List Version
versions_in older entries = flat_map (versions_of older) entries

-- the write by which a version was replaced
abbrev pub replacing_write : Replaced → Written
replacing_write one = record { place = one.by; key = one.key }

-- versions, those of each key in their order, and the writes by which some were replaced
pub record Held : Type 0 where
  pub versions : List Version
  pub replacing : List Written

-- what the entries and the queue hold
abbrev pub held_in : List Replaced → List (Key × Dated) → Held
held_in older entries = record { versions = versions_in older entries; replacing = map replacing_write older }

-- no two entries are of one key, and a key without an entry has no replaced version
pub record AreBacked (older : List Replaced) (entries : List (Key × Dated)) : Type 0 where
  pub distinct : IsDistinct key_eq (keys_of entries)
  pub backed : (key : Key) → lookup (key_eq key) entries ≡ None → replaced_of key older ≡ []

-- what is held of places below this one
abbrev pub held_below : ℕ → Held → Held
held_below first held = record {
  versions = filter (λ (version : Version). nat_lt version.place first) held.versions;
  replacing = filter (λ (write : Written). nat_lt write.place first) held.replacing;
}

-- the row of the newest of these versions below the place, or else this row
abbrev pub newest_below : Option (List ℤ) → List Dated → ℕ → Option (List ℤ)
newest_below before versions place =
    fold (λ row (version : Dated). if nat_lt version.place place then version.row else row) before versions

-- without the first version of the key
abbrev pub without_first : Key → List Version → List Version
without_first key [] = []
without_first key (version ∷ versions) =
    if is_version_of key version then versions else version ∷ without_first key versions

-- without the last version of the key
abbrev pub without_last : Key → List Version → List Version
without_last key [] = []
without_last key (version ∷ versions) =
    if is_version_of key version && not (list_any (is_version_of key) versions) then versions else version ∷ without_last key versions
