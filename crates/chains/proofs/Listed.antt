-- The rows of the entries of a map, once they are sorted: all that are there, each once.
use Rattle.std.proofs.Common.{◌≡◌, ◌<◌, ◌+◌, ◌&&◌, ◌||◌, ℕ, ℤ, suc, Bool, true, false, eqb, ltb, Option, Some, None, List, [], ◌∷◌, ◌++◌, map, length, get_or, refl, sym, ◌∙◌, ap, subst, arith, is_lt, nat_cmp}
use Rattle.std.specs.List.{AllByRecursion, IsDistinct, cons_option, filter_map}
use Rattle.std.specs.Map.{keys_of, lookup}
use Rattle.std.specs.Option.{option_map}
use Rattle.std.specs.Cmp.{IsStrictWeakOrder}
use Rattle.std.specs.Ordering.{ordering_then}
use Rattle.std.specs.Prelude.{Contains, IsPermutation, IsSortedBy}
use Rattle.std.proofs.lemmas.Bool.Decides.{nat_tests}
use Rattle.std.proofs.lemmas.List.{get_or-map, length-map}
use Rattle.std.proofs.lemmas.List.Elements.{All-from_recursion}
use Rattle.std.proofs.lemmas.List.Sorted.{All-permutation, Contains-permutation, IsPermutation-map, sorted_far}
use Rattle.std.proofs.lemmas.Map.Keys.{IsDistinct-IsPermutation, apart_from_distinct}
use Rattle.model_base.specs.declared.row.Key.{Key}
use Rattle.model_base.specs.Rows.{Rows}
use Rattle.model_base.proofs.Replay.{by_cases}
use Rattle.body.specs.RowMap.{key_eq}
use Rattle.chains.specs.RowsThere.{AreRowsThere, is_listed_before, there_in}
use Rattle.chains.specs.declared.listing.RowThere.{RowThere}
use Rattle.chains.specs.declared.replaced.Dated.{Dated}
use Rattle.chains.specs.declared.replaced.Replaced.{Replaced}
use Rattle.chains.specs.declared.version.Version.{Version}
use Rattle.chains.specs.declared.writes.Written.{Written}
use Rattle.chains.specs.Keyed.{AreBacked, Held, held_in, replaced_of, version_at}
use Rattle.chains.specs.Kept.{IsStoreKept}
use Rattle.chains.specs.Store.{AreBetween, newest_or, of_key}
use Rattle.std.proofs.lemmas.List.{map-append}
use Rattle.chains.proofs.Entries.{Entries, all-found, newest-told, own-is}
use Rattle.chains.proofs.Keyed.{key-is}

-- the order of keys, as a sort compares them
less-is : (c d : ℕ) → is_lt (nat_cmp c d) ≡ ltb c d
less-is c d = by_cases (ltb c d) (λ less. rw less refl) (λ more. rw more (by_cases (eqb c d) (λ same. rw same refl) (λ other. rw other refl)))

before-is : (a b c d : ℕ) → is_lt (ordering_then (nat_cmp a b) (nat_cmp c d)) ≡ (ltb a b || (eqb a b && ltb c d))
before-is a b c d =
    by_cases (ltb a b) (λ less. rw less refl)
    (λ more. rw more (by_cases (eqb a b) (λ same. rw same (less-is c d)) (λ other. rw other refl)))

-- rows that are sorted by key are listed
abbrev is_sorted_before : RowThere → RowThere → Bool
is_sorted_before one other = is_lt (ordering_then (nat_cmp one.key.table other.key.table) (nat_cmp one.key.row other.key.row))

pub listed-sorted : (found : List RowThere) → IsSortedBy is_sorted_before found → IsSortedBy is_listed_before found
listed-sorted found sorted = λ k d least within.
    let one = get_or found (k + 1) d in
    let other = get_or found k d in
    sym (before-is one.key.table other.key.table one.key.row other.key.row) ∙ sorted k d least within

one-way : (a b c d : ℕ) → (ltb a b || (eqb a b && ltb c d)) ≡ true → (ltb b a || (eqb b a && ltb d c)) ≡ false
one-way a b c d less = grind (arith, nat_tests)

chained : (a b c d e f : ℕ) → (ltb a b || (eqb a b && ltb d e)) ≡ false → (ltb b c || (eqb b c && ltb e f)) ≡ false
    → (ltb a c || (eqb a c && ltb d f)) ≡ false
chained a b c d e f one two = grind (arith, nat_tests)

apart-before : (a b c d : ℕ) → (eqb a b && eqb c d) ≡ false → (ltb b a || (eqb b a && ltb d c)) ≡ false
    → (ltb a b || (eqb a b && ltb c d)) ≡ true
apart-before a b c d apart later = grind (arith, nat_tests)

ranks-rows : IsStrictWeakOrder is_listed_before
ranks-rows = record {
  one_way = λ x y less. one-way x.key.table y.key.table x.key.row y.key.row less;
  chain = λ x y z one two. chained x.key.table y.key.table z.key.table x.key.row y.key.row z.key.row one two;
}

-- the row of an entry, if it is found
abbrev pub row_found : Option Dated → Option (List ℤ)
row_found None = None
row_found (Some dated) = dated.row

abbrev listed : Key → List ℤ → RowThere
listed key values = record { key = key; values = values }

-- what holds of the row of each entry holds of each that is listed
all-listed : (P : RowThere → Type 0) (entries : Entries)
    → AllByRecursion (λ (entry : Key × Dated). (values : List ℤ) → entry.1.row ≡ Some values → P (listed entry.0 values)) entries
    → AllByRecursion P (filter_map there_in entries)
all-listed P [] each = tt
all-listed P (entry ∷ entries) each = one entry.1.row each.0 (filter_map there_in entries) (all-listed P entries each.1)
  where
    one : (row : Option (List ℤ)) → ((values : List ℤ) → row ≡ Some values → P (listed entry.0 values)) → (rest : List RowThere) → AllByRecursion P rest
        → AllByRecursion P (cons_option (option_map (λ (values : List ℤ). listed entry.0 values) row) rest)
    one None each rest later = later
    one (Some values) each rest later = (each values refl, later)

-- a row that is found is listed
contains-later : (one : Option RowThere) (rest : List RowThere) (row : RowThere) → Contains rest row → Contains (cons_option one rest) row
contains-later None rest row has = has
contains-later (Some first) rest row has = (suc has.0, omega (arith, has.1), has.2)

found-listed : (key : Key) (values : List ℤ) (entries : Entries) → row_found (lookup (key_eq key) entries) ≡ Some values
    → Contains (filter_map there_in entries) (listed key values)
found-listed key values [] is = cc
found-listed key values (entry ∷ entries) is =
    by_cases (key_eq key entry.0)
    (λ hit. let same : key ≡ entry.0 = key-is key entry.0 hit in
    let row : entry.1.row ≡ Some values = rw hit at is in
    let one : there_in entry ≡ Some (listed key values) = rw (row, sym same) refl in
    subst (λ (first : Option RowThere). Contains (cons_option first (filter_map there_in entries)) (listed key values)) (sym one)
    (0, omega arith, refl))
    (λ miss. contains-later (there_in entry) (filter_map there_in entries) (listed key values) (found-listed key values entries (rw miss at is)))

-- the keys that are listed are apart
abbrev keys_listed : List RowThere → List Key
keys_listed rows = map (λ (row : RowThere). row.key) rows

others-listed : (P : Key → Type 0) (entries : Entries) → AllByRecursion P (keys_of entries)
    → AllByRecursion P (keys_listed (filter_map there_in entries))
others-listed P [] each = tt
others-listed P (entry ∷ entries) each = one entry.1.row (filter_map there_in entries) (others-listed P entries each.1)
  where
    one : (row : Option (List ℤ)) → (rest : List RowThere) → AllByRecursion P (keys_listed rest)
        → AllByRecursion P (keys_listed (cons_option (option_map (λ (values : List ℤ). listed entry.0 values) row) rest))
    one None rest later = later
    one (Some values) rest later = (each.0, later)

distinct-listed : (entries : Entries) → IsDistinct key_eq (keys_of entries) → IsDistinct key_eq (keys_listed (filter_map there_in entries))
unfolding IsDistinct
distinct-listed [] distinct = tt
distinct-listed (entry ∷ entries) distinct =
    one entry.1.row (filter_map there_in entries) (others-listed (λ (key : Key). key_eq entry.0 key ≡ false) entries distinct.0) (distinct-listed entries distinct.1)
  where
    one : (row : Option (List ℤ)) → (rest : List RowThere) → AllByRecursion (λ (key : Key). key_eq entry.0 key ≡ false) (keys_listed rest)
        → IsDistinct key_eq (keys_listed rest)
        → IsDistinct key_eq (keys_listed (cons_option (option_map (λ (values : List ℤ). listed entry.0 values) row) rest))
    one None rest others later = later
    one (Some values) rest others later = (others, later)

flips : (a b : Key) → key_eq a b ≡ key_eq b a
flips a b = grind (arith, nat_tests)

pub all-rows-there : (rows : Rows) (entries : Entries) (found : List RowThere) → IsDistinct key_eq (keys_of entries)
    → ((key : Key) → rows key.table key.row ≡ row_found (lookup (key_eq key) entries))
    → IsPermutation (filter_map there_in entries) found → IsSortedBy is_listed_before found → AreRowsThere rows found
all-rows-there rows entries found distinct told moved sorted = record {
  rising = λ i j d less within.
      let keys = keys_listed found in
      let apart : IsDistinct key_eq keys =
      IsDistinct-IsPermutation key_eq flips (keys_listed (filter_map there_in entries)) keys
      (IsPermutation-map (λ (row : RowThere). row.key) (filter_map there_in entries) found moved) (distinct-listed entries distinct) in
      let one = get_or found i d in
      let later = get_or found j d in
      let long : length keys ≡ length found = length-map found (λ (row : RowThere). row.key) in
      let differ : key_eq (get_or keys i d.key) (get_or keys j d.key) ≡ false = apart_from_distinct key_eq keys i j d.key apart less (omega (arith, long, within)) in
      let differ : key_eq one.key later.key ≡ false =
      rw (
        get_or-map (λ (row : RowThere). row.key) found i d d.key (omega (arith, less, within)),
        get_or-map (λ (row : RowThere). row.key) found j d d.key within,
      ) at differ in
      apart-before one.key.table later.key.table one.key.row later.key.row differ
      (sorted_far is_listed_before ranks-rows found sorted i j d (omega (arith, less)) within);
  there =
      All-permutation (λ (one : RowThere). rows one.key.table one.key.row ≡ Some one.values) (filter_map there_in entries) found moved
      (All-from_recursion (λ (one : RowThere). rows one.key.table one.key.row ≡ Some one.values) (filter_map there_in entries)
      (all-listed (λ (one : RowThere). rows one.key.table one.key.row ≡ Some one.values) entries
      (all-found (λ key dated. (values : List ℤ) → dated.row ≡ Some values → rows key.table key.row ≡ Some values) entries distinct
      (λ key dated is values row. told key ∙ ap row_found is ∙ row))));
  all = λ key values is.
      Contains-permutation (filter_map there_in entries) found (listed key values) moved (found-listed key values entries (sym (told key) ∙ is));
}

-- the last version is below the end
last-below : (first end : ℕ) (front : List Version) (version : Version) → AreBetween first end (front ++ version ∷ []) → version.place < end
last-below first end [] version between = between.1
last-below first end (other ∷ front) version between = last-below other.place end front version between.2

-- what a store gives at its end is what its entries have
pub told-at-end : (older : List Replaced) (entries : Entries) (held : Held) (absent : List Written) (mark end : ℕ) (key : Key)
    → held_in older entries ≡ held → AreBacked older entries → IsStoreKept held absent mark end
    → newest_or None held.versions end key ≡ row_found (lookup (key_eq key) entries)
told-at-end older entries held absent mark end key view backed kept = by_entry (lookup (key_eq key) entries) refl
  where
    by_entry : (one : Option Dated) → lookup (key_eq key) entries ≡ one → newest_or None held.versions end key ≡ row_found one
    by_entry None is = sym (newest-told older entries held key end None view backed (sym is))
    by_entry (Some newest) is =
        let own : of_key key held.versions ≡ map (version_at key) (replaced_of key older) ++ version_at key newest ∷ [] =
        ap (λ (held : Held). of_key key held.versions) (sym view) ∙ own-is older key entries (Some newest) backed.distinct is
        ∙ map-append (version_at key) (replaced_of key older) (newest ∷ []) in
        let below : newest.place < end =
        last-below 0 end (map (version_at key) (replaced_of key older)) (version_at key newest) (subst (AreBetween 0 end) own (kept.ordered key)) in
        let hit : ltb newest.place end ≡ true = grind (arith, nat_tests) in
        sym (rw hit at (newest-told older entries held key end (Some newest) view backed (sym is)))
