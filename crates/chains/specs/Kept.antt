-- What a store keeps beside its versions, so that trimming and sweeping cost what they take out.
use Rattle.std.specs.Prelude.{◌≡◌, ◌≤◌, ◌<◌, ◌==◌, ◌&&◌, ◌||◌, ◌++◌, nat_lt, ℕ, Bool, true, not, is_none, List, [], ◌∷◌, drop, filter, fold, length, map, if◌then◌else◌}
use Rattle.std.specs.List.{AllByRecursion, list_any}
use Rattle.body.specs.Room.{same_key}
use Rattle.model_base.specs.declared.row.Key.{Key}
use Rattle.chains.specs.declared.version.Version.{Version}
use Rattle.chains.specs.declared.writes.Written.{Written}
use Rattle.chains.specs.Keyed.{Held, without_first}
use Rattle.chains.specs.Store.{AreBetween, is_spent, of_key}

-- the place and the key of a version
abbrev pub written_by : Version → Written
written_by version = record { place = version.place; key = version.key }

-- the writes of the key, in their order
abbrev pub written_to : Key → List Written → List Written
written_to key writes =
    filter (λ (write : Written). same_key write.key.table write.key.row key.table key.row) writes

-- the writes are in the order of their places, from the first place to below the end
abbrev pub AreWrittenInOrder : ℕ → ℕ → List Written → Type 0
AreWrittenInOrder first end [] = first ≤ end
AreWrittenInOrder first end (write ∷ writes) = (first ≤ write.place) × (write.place < end) × AreWrittenInOrder write.place end writes

-- no write is first whose place is below the mark
abbrev pub IsFrom : ℕ → List Written → Type 0
IsFrom mark [] = Unit {0}
IsFrom mark (write ∷ writes) = mark ≤ write.place

-- of the versions of one key, the writes of all but the oldest: each takes the place of the version before it
abbrev pub replacing_of : List Version → List Written
replacing_of versions = map written_by (drop 1 versions)

-- whether the row is absent in the version
abbrev pub is_absent : Version → Bool
is_absent version = is_none version.row

-- whether the version is that of the write
abbrev pub is_write_of : Version → Written → Bool
is_write_of version write =
    (write.place == version.place) && same_key write.key.table write.key.row version.key.table version.key.row

-- whether there is a row in the version, or its write is noted
abbrev pub is_noted : List Written → Version → Bool
is_noted notes version = not (is_none version.row) || list_any (is_write_of version) notes

-- whether the newest of the versions is noted, if there is one
abbrev pub newest_is_noted : List Written → List Version → Bool
newest_is_noted notes versions = fold (λ before (version : Version). is_noted notes version) true versions

-- the writes, once a version is appended to the others of its key: one more where there are any
abbrev pub replacing_after : Held → Version → List Written
replacing_after held version =
    if nat_lt 0 (length (of_key version.key held.versions)) then held.replacing ++ written_by version ∷ [] else held.replacing

-- the writes are of places below this one
abbrev pub AreWrittenBelow : ℕ → List Written → Type 0
AreWrittenBelow first writes = AllByRecursion (λ (write : Written). write.place < first) writes

-- the versions of each key are in the order of their places, below the end; and the writes of those that replaced an older one are in the
-- order of theirs
pub record AreChained (held : Held) (end : ℕ) : Type 0 where
  pub ordered : (key : Key) → AreBetween 0 end (of_key key held.versions)
  pub replacing : (key : Key) → written_to key held.replacing ≡ replacing_of (of_key key held.versions)
  pub rising : AreWrittenInOrder 0 end held.replacing

-- whether the version is of a place below the mark, or noted
abbrev pub is_late_noted : ℕ → List Written → Version → Bool
is_late_noted mark notes version = nat_lt version.place mark || is_noted notes version

-- each version of the mark or a later place is noted
abbrev pub AreLateNoted : ℕ → List Written → List Version → Type 0
AreLateNoted mark notes versions = AllByRecursion (λ (version : Version). is_late_noted mark notes version ≡ true) versions

-- the newest version of each key is noted
abbrev pub AreNoted : Held → List Written → Type 0
AreNoted held notes = (key : Key) → newest_is_noted notes (of_key key held.versions) ≡ true

-- the mark isn't past the end; the versions of each key are in the order of their places, below the end; the writes of those that replaced
-- an older one are in the order of their places, none of them below the mark; and the notes of versions in which a row is absent are so
-- too, among them each of the mark or a later place
pub record IsStoreKept (held : Held) (absent : List Written) (mark end : ℕ) : Type 0 where
  pub within : mark ≤ end
  pub ordered : (key : Key) → AreBetween 0 end (of_key key held.versions)
  pub replacing : (key : Key) → written_to key held.replacing ≡ replacing_of (of_key key held.versions)
  pub rising : AreWrittenInOrder mark end held.replacing
  pub late : (key : Key) → AreLateNoted mark absent (of_key key held.versions)
  pub falling : AreWrittenInOrder 0 end absent

-- the versions, once that of the key is swept out where it is spent
abbrev pub next_swept : ℕ → List Version → Key → List Version
next_swept mark versions key = if is_spent mark (of_key key versions) then without_first key versions else versions
