-- Versions and writes in the order of their places.
use Rattle.std.proofs.Common.{◌≡◌, ℕ, zero, suc, ◌+◌, ◌-◌, ◌≤◌, List, [], ◌∷◌, ◌++◌, filter, map, ℤ, Bool, false, not, ltb, Option, refl, ap, arith, subst}
use Rattle.std.proofs.lemmas.Bool.Decides.{nat_tests}
use Rattle.std.proofs.lemmas.List.{map-append}
use Rattle.std.proofs.lemmas.Simd.{map-map}
use Rattle.std.specs.List.{flat_map, range_with_len}
use Rattle.std.specs.Option.{option_map_or}
use Rattle.std.specs.Prelude.{slice_get}
use Rattle.model_base.specs.declared.row.Key.{Key}
use Rattle.model_base.specs.declared.statement.Access.{Access}
use Rattle.model_base.specs.declared.statement.Statement.{Statement}
use Rattle.model_base.specs.Outcomes.{rows_before}
use Rattle.model_base.specs.Versions.{writes_of, version_cells}
use Rattle.chains.specs.declared.version.Version.{Version}
use Rattle.body.specs.Room.{same_key}
use Rattle.std.proofs.lemmas.Bool.{cond_both}
use Rattle.chains.specs.declared.writes.Written.{Written}
use Rattle.chains.specs.Kept.{AreWrittenInOrder, IsFrom, written_by, written_to}
use Rattle.chains.specs.Store.{AreBetween, versions_at, versions_between}

-- writes in order: the first place isn't after the end and may be an earlier one, the end may be a later one
pub rising-bound : (first end : ℕ) (writes : List Written) → AreWrittenInOrder first end writes → first ≤ end
rising-bound first end [] rising = rising
rising-bound first end (write ∷ writes) rising = omega (arith, rising.0, rising.1)

pub rising-earlier : (earlier first end : ℕ) (writes : List Written) → earlier ≤ first → AreWrittenInOrder first end writes
    → AreWrittenInOrder earlier end writes
rising-earlier earlier first end [] before rising = omega (arith, rising)
rising-earlier earlier first end (write ∷ writes) before rising = (omega (arith, rising.0), rising.1, rising.2)

pub rising-later : (first end later : ℕ) (writes : List Written) → end ≤ later → AreWrittenInOrder first end writes
    → AreWrittenInOrder first later writes
rising-later first end later [] further rising = omega (arith, rising)
rising-later first end later (write ∷ writes) further rising =
    (rising.0, omega (arith, rising.1), rising-later write.place end later writes further rising.2)

pub rising-from : (mark first end : ℕ) (writes : List Written) → IsFrom mark writes → mark ≤ end → AreWrittenInOrder first end writes
    → AreWrittenInOrder mark end writes
rising-from mark first end [] from within rising = within
rising-from mark first end (write ∷ writes) from within rising = (from, rising.1, rising.2)

-- those of one key, the others without one, and the beginning
pub rising-to : (key : Key) (first end : ℕ) (writes : List Written) → AreWrittenInOrder first end writes
    → AreWrittenInOrder first end (written_to key writes)
rising-to key first end [] rising = rising
rising-to key first end (write ∷ writes) rising =
    let rest : AreWrittenInOrder write.place end (written_to key writes) = rising-to key write.place end writes rising.2 in
    cond_both (same_key write.key.table write.key.row key.table key.row) _ _ (AreWrittenInOrder first end)
    (λ hit. (rising.0, rising.1, rest)) (λ miss. rising-earlier first write.place end (written_to key writes) rising.0 rest)

pub rising-skip : (first end : ℕ) (writes : List Written) (write : Written) (more : List Written)
    → AreWrittenInOrder first end (writes ++ write ∷ more) → AreWrittenInOrder first end (writes ++ more)
rising-skip first end [] write more rising = rising-earlier first write.place end more rising.0 rising.2
rising-skip first end (other ∷ writes) write more rising = (rising.0, rising.1, rising-skip other.place end writes write more rising.2)

pub rising-start : (first end : ℕ) (writes later : List Written) → AreWrittenInOrder first end (writes ++ later) → AreWrittenInOrder first end writes
rising-start first end [] later rising = rising-bound first end later rising
rising-start first end (write ∷ writes) later rising = (rising.0, rising.1, rising-start write.place end writes later rising.2)

-- one write more, of the place before the end
pub rising-snoc : (first end : ℕ) (writes : List Written) (write : Written) → first ≤ write.place → write.place + 1 ≡ end
    → AreWrittenInOrder first end writes → AreWrittenInOrder first end (writes ++ write ∷ [])
rising-snoc first end [] write least last rising = (least, omega arith, omega arith)
rising-snoc first end (other ∷ writes) write least last rising =
    (rising.0, rising.1, rising-snoc other.place end writes write (omega (arith, rising.1)) last rising.2)

-- versions in order are those whose writes are
pub between-rising : (first end : ℕ) (versions : List Version) → AreWrittenInOrder first end (map written_by versions) → AreBetween first end versions
between-rising first end [] rising = rising
between-rising first end (version ∷ versions) rising = (rising.0, rising.1, between-rising version.place end versions rising.2)

pub rising-versions : (first end : ℕ) (versions : List Version) → AreBetween first end versions
    → AreWrittenInOrder first end (map written_by versions)
rising-versions first end [] between = between
rising-versions first end (version ∷ versions) between = (between.0, between.1, rising-versions version.place end versions between.2)

-- versions after some writes
pub rising-append : (first middle end : ℕ) (writes : List Written) (versions : List Version) → AreWrittenInOrder first middle writes
    → AreBetween middle end versions → AreWrittenInOrder first end (writes ++ map written_by versions)
rising-append first middle end [] versions rising between =
    rising-earlier first middle end (map written_by versions) rising (rising-versions middle end versions between)
rising-append first middle end (write ∷ writes) versions rising between =
    let bound = rising-bound middle end (map written_by versions) (rising-versions middle end versions between) in
    (rising.0, omega (arith, rising.1, bound), rising-append write.place middle end writes versions rising.2 between)

pub between-bound : (first end : ℕ) (versions : List Version) → AreBetween first end versions → first ≤ end
between-bound first end versions between = rising-bound first end (map written_by versions) (rising-versions first end versions between)

pub between-earlier : (earlier first end : ℕ) (versions : List Version) → earlier ≤ first → AreBetween first end versions
    → AreBetween earlier end versions
between-earlier earlier first end [] before between = omega (arith, between)
between-earlier earlier first end (version ∷ versions) before between = (omega (arith, between.0), between.1, between.2)

pub between-later : (first end later : ℕ) (versions : List Version) → end ≤ later → AreBetween first end versions → AreBetween first later versions
between-later first end later versions further between =
    between-rising first later versions (rising-later first end later (map written_by versions) further (rising-versions first end versions between))

pub between-start : (first end : ℕ) (versions later : List Version) → AreBetween first end (versions ++ later) → AreBetween first end versions
between-start first end versions later between =
    let rising = rw map-append at (rising-versions first end (versions ++ later) between) in
    between-rising first end versions (rising-start first end (map written_by versions) (map written_by later) rising)

pub between-append : (first middle end : ℕ) (versions later : List Version) → AreBetween first middle versions → AreBetween middle end later
    → AreBetween first end (versions ++ later)
between-append first middle end versions later before after =
    between-rising first end (versions ++ later)
    (rw map-append (rising-append first middle end (map written_by versions) later (rising-versions first middle versions before) after))

pub between-snoc : (first end : ℕ) (versions : List Version) (version : Version) → first ≤ version.place → version.place + 1 ≡ end
    → AreBetween first end versions → AreBetween first end (versions ++ version ∷ [])
between-snoc first end versions version least last between =
    between-rising first end (versions ++ version ∷ [])
    (rw map-append (rising-snoc first end (map written_by versions) (written_by version) least last (rising-versions first end versions between)))

-- versions that pass a test are in order too, as those of one key
pub between-filter : (passes : Version → Bool) (first end : ℕ) (versions : List Version) → AreBetween first end versions
    → AreBetween first end (filter passes versions)
between-filter passes first end [] between = between
between-filter passes first end (version ∷ versions) between =
    let rest = between-filter passes version.place end versions between.2 in
    cond_both (passes version) _ _ (AreBetween first end) (λ hit. (between.0, between.1, rest))
    (λ miss. between-earlier first version.place end (filter passes versions) between.0 rest)

-- a version among others is of the first place or of a later one
pub between-at : (first end : ℕ) (front : List Version) (version : Version) (more : List Version) → AreBetween first end (front ++ version ∷ more)
    → first ≤ version.place
between-at first end [] version more between = between.0
between-at first end (other ∷ front) version more between = omega (arith, between.0, between-at other.place end front version more between.2)

-- of versions from a place on, none is below it
pub low-none : (first from end : ℕ) (versions : List Version) → first ≤ from → AreBetween from end versions
    → filter (λ (version : Version). ltb version.place first) versions ≡ []
low-none first from end [] least between = refl
low-none first from end (version ∷ versions) least between =
    let miss : ltb version.place first ≡ false = grind (arith, nat_tests, between.0) in
    rw miss (low-none first version.place end versions (omega (arith, between.0)) between.2)

pub high-all : (first from end : ℕ) (versions : List Version) → first ≤ from → AreBetween from end versions
    → filter (λ (version : Version). not (ltb version.place first)) versions ≡ versions
high-all first from end [] least between = refl
high-all first from end (version ∷ versions) least between =
    let miss : ltb version.place first ≡ false = grind (arith, nat_tests, between.0) in
    rw miss (ap (λ vs. version ∷ vs) (high-all first version.place end versions (omega (arith, between.0)) between.2))

-- the versions of one place
between-one : (place : ℕ) (row : Access → Option (List ℤ)) (accesses : List Access)
    → AreBetween place (place + 1) (map (λ (access : Access). record { place = place; key = access.key; row = row access }) accesses)
between-one place row [] = omega arith
between-one place row (access ∷ accesses) = (omega arith, omega arith, between-one place row accesses)

pub between-range : (log : List Statement) (first count : ℕ)
    → AreBetween first (first + count) (flat_map (versions_at log) (range_with_len first count))
between-range log first zero = omega arith
between-range log first (suc count) =
    let rest = flat_map (versions_at log) (range_with_len (first + 1) count) in
    let same : first + 1 + count ≡ first + suc count = omega arith in
    between-append first (first + 1) (first + suc count) (versions_at log first) rest
    (between-one first (λ access. rows_before log (first + 1) access.key.table access.key.row) (option_map_or writes_of (slice_get log first) []))
    (subst (λ (end : ℕ). AreBetween (first + 1) end rest) same (between-range log (first + 1) count))

pub between-log : (log : List Statement) (first end : ℕ) → first ≤ end → AreBetween first end (versions_between log first end)
between-log log first end less =
    let same : first + (end - first) ≡ end = omega arith in
    subst (λ (last : ℕ). AreBetween first last (versions_between log first end)) same (between-range log first (end - first))

-- the rows of versions are those that they were made of
pub cells-at : (log : List Statement) (place : ℕ) → map (λ (version : Version). version.row) (versions_at log place) ≡ version_cells log place
cells-at log place =
    map-map (λ (version : Version). version.row)
    (λ (access : Access). record { place = place; key = access.key; row = rows_before log (place + 1) access.key.table access.key.row })
    (option_map_or writes_of (slice_get log place) [])
