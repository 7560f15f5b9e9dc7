-- The versions of one key, where they stand together among those of other keys, and the newest of them before a place.
use Rattle.std.proofs.Common.{drop, cond, ◌≡◌, ℕ, ◌≤◌, true, false, ltb, List, [], ◌∷◌, ◌++◌, filter, map, refl, ◌∙◌, ap, subst, arith, ◌<◌, ℤ, Option, None, sym}
use Rattle.std.proofs.lemmas.Bool.Decides.{nat_tests}
use Rattle.std.specs.List.{AllByRecursion, list_any}
use Rattle.std.proofs.lemmas.List.{map-append, append_assoc, append-nil}
use Rattle.std.proofs.lemmas.List.Elements.{filter-append}
use Rattle.std.proofs.lemmas.List.Folds.{list_any-append}
use Rattle.model_base.specs.declared.row.Key.{Key}
use Rattle.body.specs.Room.{same_key}
use Rattle.body.proofs.Rows.{same_key-true, same_key-own}
use Rattle.chains.specs.declared.replaced.Dated.{Dated}
use Rattle.chains.specs.declared.version.Version.{Version}
use Rattle.chains.specs.Keyed.{version_at, without_first, without_last}
use Rattle.std.proofs.lemmas.Bool.{cond_both, and_right}
use Rattle.chains.specs.Store.{is_version_of, of_key, AreBetween, is_older, newest_or}
use Rattle.model_base.proofs.Replay.{by_cases}
use Rattle.model_base.specs.declared.statement.Access.{Access}
use Rattle.model_base.specs.Rows.{Rows}
use Rattle.model_base.specs.Versions.{is_writing}
use Rattle.model_base.specs.References.{is_write_to}

-- two keys with one table and one row are one
pub key-is : (a b : Key) → same_key a.table a.row b.table b.row ≡ true → a ≡ b
key-is a b same =
    let keys : (a.table ≡ b.table) × (a.row ≡ b.row) = same_key-true a.table a.row b.table b.row same in λ i.
    record { table = keys.0 i; row = keys.1 i }

pub own-key : (key : Key) (chain : List Dated) → of_key key (map (version_at key) chain) ≡ map (version_at key) chain
own-key key [] = refl
own-key key (dated ∷ chain) = simp (same_key-own, own-key key chain)

pub other-key : (key other : Key) → same_key key.table key.row other.table other.row ≡ false → (chain : List Dated)
    → of_key other (map (version_at key) chain) ≡ []
other-key key other differ [] = refl
other-key key other differ (dated ∷ chain) = simp (differ, other-key key other differ chain)

none-any : (key : Key) (versions : List Version) → of_key key versions ≡ [] → list_any (is_version_of key) versions ≡ false
none-any key [] none = refl
none-any key (version ∷ versions) none = grind (arith, none-any key versions)

has-any : (key : Key) (front : List Version) (version : Version) (back : List Version) → is_version_of key version ≡ true
    → list_any (is_version_of key) (front ++ version ∷ back) ≡ true
has-any key front version back is = grind (arith, list_any-append (is_version_of key) front (version ∷ back))

-- the last version of a key, where those of other keys follow it
pub last-out : (key : Key) (front : List Version) (version : Version) (back : List Version)
    → is_version_of key version ≡ true → of_key key back ≡ [] → without_last key (front ++ version ∷ back) ≡ front ++ back
last-out key [] version back is none = grind (arith, none-any key back)
last-out key (first ∷ front) version back is none = grind (arith, has-any key front version back, last-out key front version back)

-- the versions of a key, before and after those of the other keys
abbrev pub among : Key → List Version → List Version → List Dated → List Version
among key front back chain = front ++ (map (version_at key) chain ++ back)

module _ (key : Key) (front back : List Version) (none_front : of_key key front ≡ []) (none_back : of_key key back ≡ []) where
  pub among-own : (chain : List Dated) → of_key key (among key front back chain) ≡ map (version_at key) chain
  among-own chain = simp (filter-append, none_front, none_back, own-key, append-nil)

  -- one version more at the end of the key's
  longer : (chain : List Dated) (dated : Dated)
      → among key front back (chain ++ dated ∷ []) ≡ (front ++ map (version_at key) chain) ++ version_at key dated ∷ back
  longer chain dated = simp (map-append, append_assoc)

  pub among-last : (chain : List Dated) (dated : Dated) → without_last key (among key front back (chain ++ dated ∷ [])) ≡ among key front back chain
  among-last chain dated =
      let own = map (version_at key) chain in
      ap (without_last key) (longer chain dated)
      ∙ last-out key (front ++ own) (version_at key dated) back (same_key-own key.table key.row) none_back
      ∙ append_assoc front own back

  -- each key's versions, where one was put
  pub among-put : (chain : List Dated) (dated : Dated) (other : Key)
      → of_key other (among key front back (chain ++ dated ∷ [])) ≡ of_key other (among key front back chain ++ version_at key dated ∷ [])
  among-put chain dated other =
      by_cases (is_version_of other (version_at key dated))
      (λ same. let none : of_key other back ≡ [] = subst (λ (k : Key). of_key k back ≡ []) (key-is key other same) none_back in
      simp (longer, filter-append, same, none, append-nil))
      (λ differ. simp (longer, filter-append, differ, append-nil, append_assoc))

  -- a version that isn't below a place leaves those below it as they are
  pub among-below : (chain : List Dated) (dated : Dated) (first : ℕ) → first ≤ dated.place
      → filter (λ (version : Version). ltb version.place first) (among key front back (chain ++ dated ∷ []))
      ≡ filter (λ (version : Version). ltb version.place first) (among key front back chain)
  among-below chain dated first least =
      let miss : ltb dated.place first ≡ false = grind (arith, nat_tests) in
      simp (longer, filter-append, miss, append_assoc)

-- some versions more after those that each key has
pub more-behind : (key : Key) (old now new done more all : List Version) → of_key key new ≡ of_key key (now ++ more)
    → of_key key now ≡ of_key key (old ++ done) → all ≡ done ++ more → of_key key new ≡ of_key key (old ++ all)
more-behind key old now new done more all added before is =
    added ∙ rw is (simp (filter-append, before, append_assoc))

-- without the first version of a key: the key's versions, and those of another key
pub of_key-first : (key : Key) (versions : List Version) → of_key key (without_first key versions) ≡ drop 1 (of_key key versions)
of_key-first key [] = refl
of_key-first key (version ∷ versions) =
    by_cases (is_version_of key version)
    (λ hit. rw hit refl)
    (λ miss. let rest = of_key-first key versions in rw miss (rw miss rest))

pub of_key-other : (key other : Key) (versions : List Version) → same_key key.table key.row other.table other.row ≡ false
    → of_key other (without_first key versions) ≡ of_key other versions
of_key-other key other [] differ = refl
of_key-other key other (version ∷ versions) differ =
    by_cases (is_version_of key version)
    (λ hit. let miss : is_version_of other version ≡ false =
    ap (λ (k : Key). same_key k.table k.row other.table other.row) (key-is version.key key hit) ∙ differ in
    rw (hit, miss) refl)
    (λ miss. rw miss (ap (λ vs. cond (is_version_of other version) (version ∷ vs) vs) (of_key-other key other versions differ)))

pub all-pass : (key : Key) (versions : List Version) → AllByRecursion (λ version. is_version_of key version ≡ true) (of_key key versions)
all-pass key [] = tt
all-pass key (version ∷ versions) =
    cond_both (is_version_of key version) _ _ (AllByRecursion (λ version. is_version_of key version ≡ true))
    (λ hit. (hit, all-pass key versions)) (λ miss. all-pass key versions)

-- what a version makes of the row of those before it
abbrev pub stepped : ℕ → Key → Option (List ℤ) → Version → Option (List ℤ)
stepped place key row version = cond (is_older place key version) version.row row

-- versions at the place or later aren't seen
pub newest-late : (row : Option (List ℤ)) (first end place : ℕ) (key : Key) (versions : List Version) → AreBetween first end versions → place ≤ first
    → newest_or row versions place key ≡ row
newest-late row first end place key [] between less = refl
newest-late row first end place key (version ∷ versions) between less =
    let test : ltb version.place place ≡ false = grind (arith, nat_tests, between.0) in
    rw test (newest-late row version.place end place key versions between.2 (omega (arith, between.0)))

-- versions below both places are seen from both
pub newest-early : (row : Option (List ℤ)) (first end place other : ℕ) (key : Key) (versions : List Version) → AreBetween first end versions
    → end ≤ place → end ≤ other → newest_or row versions place key ≡ newest_or row versions other key
newest-early row first end place other key [] between less lesser = refl
newest-early row first end place other key (version ∷ versions) between less lesser =
    let one : ltb version.place place ≡ true = grind (arith, nat_tests, between.1) in
    let two : ltb version.place other ≡ true = grind (arith, nat_tests, between.1) in
    rw (one, two) (newest-early (cond (is_version_of key version) version.row row) version.place end place other key versions between.2 less lesser)

-- only the versions of the key are seen
pub newest-of_key : (row : Option (List ℤ)) (place : ℕ) (key : Key) (versions : List Version)
    → newest_or row versions place key ≡ newest_or row (of_key key versions) place key
newest-of_key row place key [] = refl
newest-of_key row place key (version ∷ versions) =
    by_cases (is_version_of key version)
    (λ hit. newest-of_key (stepped place key row version) place key versions
    ∙ ap (λ b. newest_or row (cond b (version ∷ of_key key versions) (of_key key versions)) place key) (sym hit))
    (λ miss. rw (miss, and_right (ltb version.place place) false refl) (newest-of_key row place key versions))

-- after all versions the same is seen from each place
pub newest-past : (end place : ℕ) (key : Key) (versions : List Version) → AreBetween 0 end (of_key key versions) → end ≤ place
    → newest_or None versions place key ≡ newest_or None versions end key
newest-past end place key versions ordered past =
    newest-of_key None place key versions
    ∙ newest-early None 0 end place end key (of_key key versions) ordered past (omega arith)
    ∙ sym (newest-of_key None end key versions)

-- the versions of one place, seen from a later one: the row after the place, if an access may write it
pub newest-one : (before : Option (List ℤ)) (rows : Rows) (at place : ℕ) (key : Key) (accesses : List Access) → at < place
    → newest_or before (map (λ (access : Access). record { place = at; key = access.key; row = rows access.key.table access.key.row })
    (filter is_writing accesses)) place key
    ≡ cond (list_any (is_write_to key.table key.row) accesses) (rows key.table key.row) before
newest-one before rows at place key [] less = refl
newest-one before rows at place key (access ∷ accesses) less =
    let seen : ltb at place ≡ true = grind (arith, nat_tests) in
    let after = rows key.table key.row in
    by_cases (same_key access.key.table access.key.row key.table key.row)
    (λ same. let row : rows access.key.table access.key.row ≡ after = ap (λ (k : Key). rows k.table k.row) (key-is access.key key same) in
    grind (arith, seen, row, newest-one after rows at place key accesses less, newest-one before rows at place key accesses less))
    (λ other. grind (arith, seen, newest-one before rows at place key accesses less))
