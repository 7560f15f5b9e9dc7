-- Entries that are left when others are dropped, each of which has a single version.
use Rattle.std.proofs.Common.{◌≡◌, ℕ, ◌+◌, ◌<◌, Bool, true, false, ◌&&◌, not, cond, ltb, is_none, Option, Some, None, List, [], ◌∷◌, ◌++◌, filter, map, length, refl, sym, ◌∙◌, ap, subst, arith}
use Rattle.std.specs.List.{AllByRecursion}
use Rattle.std.specs.Map.{lookup}
use Rattle.std.proofs.lemmas.Bool.{not-false}
use Rattle.std.proofs.lemmas.Bool.Decides.{nat_tests}
use Rattle.std.proofs.lemmas.List.{length-append}
use Rattle.std.proofs.lemmas.List.Elements.{filter-append}
use Rattle.std.proofs.lemmas.Map.Entries.{lookup-filter-values, option_filter}
use Rattle.model_base.specs.declared.row.Key.{Key}
use Rattle.body.specs.RowMap.{key_eq}
use Rattle.chains.specs.declared.replaced.Dated.{Dated}
use Rattle.chains.specs.declared.replaced.Replaced.{Replaced}
use Rattle.chains.specs.declared.writes.Written.{Written}
use Rattle.chains.specs.Keyed.{AreBacked, held_below, held_in, replaced_of, replacing_write, version_at, versions_in, versions_of}
use Rattle.chains.specs.Kept.{AreChained, AreWrittenBelow, IsStoreKept, replacing_of, written_by}
use Rattle.chains.specs.Store.{AreBetween, is_spent, of_key, swept}
use Rattle.chains.proofs.Cutting.{below-kept, low}
use Rattle.chains.proofs.Entries.{Entries, all-found, keys-equiv, own-is, own_of}
use Rattle.chains.proofs.Sweeping.{all-filter, spent-alone, spent-found}
use Rattle.model_base.proofs.Replay.{by_cases}

-- the entries whose newest version passes
abbrev pub passing : (Dated → Bool) → Entries → Entries
passing test entries = filter (λ (entry : Key × Dated). test entry.1) entries

-- a key whose entry was dropped has no replaced version
pub passing-backed : (test : Dated → Bool) (older : List Replaced) (entries : Entries) → AreBacked older entries
    → ((key : Key) (dated : Dated) → lookup (key_eq key) entries ≡ Some dated → test dated ≡ false → replaced_of key older ≡ [])
    → (key : Key) → lookup (key_eq key) (passing test entries) ≡ None → replaced_of key older ≡ []
passing-backed test older entries backed single key none = by_lookup (lookup (key_eq key) entries) refl
  where
    by_lookup : (one : Option Dated) → lookup (key_eq key) entries ≡ one → replaced_of key older ≡ []
    by_lookup None is = backed.backed key is
    by_lookup (Some dated) is =
        let left : option_filter test (Some dated) ≡ None =
        sym (lookup-filter-values keys-equiv test key entries backed.distinct ∙ ap (option_filter test) is) ∙ none in
        single key dated is (by_cases (test dated) (λ hit. let no' = rw hit at left in cc) (λ miss. miss))

-- the versions of a key, none of which replaced another one from the place on: all are below it, but for a single one
last-below : (first : ℕ) (key : Key) (chain : List Dated) (dated : Dated)
    → AreWrittenBelow first (map written_by (map (version_at key) (chain ++ dated ∷ []))) → dated.place < first
last-below first key [] dated each = each.0
last-below first key (other ∷ chain) dated each = last-below first key chain dated each.1

all-low : (first : ℕ) (key : Key) (chain : List Dated) → AreWrittenBelow first (map written_by (map (version_at key) chain))
    → low first (map (version_at key) chain) ≡ map (version_at key) chain
all-low first key [] each = refl
all-low first key (dated ∷ chain) each =
    let hit : ltb dated.place first ≡ true = grind (arith, nat_tests, each.0) in simp (hit, all-low first key chain each.1)

record OfOne (first : ℕ) (older : List Replaced) (key : Key) (dated : Dated) : Type 0 where
  kept : low first (versions_of older (key, dated)) ≡ cond (ltb dated.place first) (versions_of older (key, dated)) []
  single : ltb dated.place first ≡ false → replaced_of key older ≡ []

of-one : (first end : ℕ) (older : List Replaced) (key : Key) (dated : Dated) (chain : List Dated) → replaced_of key older ≡ chain
    → AreBetween 0 end (map (version_at key) (chain ++ dated ∷ []))
    → AreWrittenBelow first (replacing_of (map (version_at key) (chain ++ dated ∷ []))) → OfOne first older key dated
of-one first end older key dated [] is between each = record { kept = simp is; single = λ late. is }
of-one first end older key dated (one ∷ chain) is between each =
    let less : dated.place < first = last-below first key chain dated each in
    let hit : ltb dated.place first ≡ true = grind (arith, nat_tests) in
    record {
      kept = rw (is, hit) (all-low first key (one ∷ chain ++ dated ∷ []) (before chain between.2 each, each));
      single = λ late. let no' : true ≡ false = sym hit ∙ late in cc;
    }
  where
    before : (chain : List Dated) → AreBetween one.place end (map (version_at key) (chain ++ dated ∷ []))
        → AreWrittenBelow first (map written_by (map (version_at key) (chain ++ dated ∷ []))) → one.place < first
    before [] between each = omega (arith, each.0, between.0)
    before (other ∷ chain) between each = omega (arith, each.0, between.0)

passing-low : (first : ℕ) (older : List Replaced) (entries : Entries)
    → AllByRecursion (λ (entry : Key × Dated). OfOne first older entry.0 entry.1) entries
    → versions_in older (passing (λ dated. ltb dated.place first) entries) ≡ low first (versions_in older entries)
passing-low first older [] each = refl
passing-low first older (entry ∷ entries) each =
    let rest = passing-low first older entries each.1 in
    by_cases (ltb entry.1.place first)
    (λ hit. let own = rw hit at each.0.kept in rw (hit, filter-append) (λ i. sym own i ++ rest i))
    (λ miss. let own = rw miss at each.0.kept in rw (miss, filter-append) (λ i. sym own i ++ rest i))

-- what is left when only the entries are whose newest version is below the place
pub record IsKeptBelow (first : ℕ) (older : List Replaced) (entries new : Entries) : Type 0 where
  pub held : held_in older new ≡ held_below first (held_in older entries)
  pub backed : (key : Key) → lookup (key_eq key) new ≡ None → replaced_of key older ≡ []

pub keep-below : (first end : ℕ) (older : List Replaced) (entries : Entries) → AreBacked older entries → AreChained (held_in older entries) end
    → AreWrittenBelow first (map replacing_write older) → IsKeptBelow first older entries (passing (λ dated. ltb dated.place first) entries)
keep-below first end older entries backed chained each = record {
  held =
      let versions = passing-low first older entries (all-found (OfOne first older) entries backed.distinct one) in
      let writes = sym (below-kept first (map replacing_write older) each) in
      λ i. record { versions = versions i; replacing = writes i };
  backed = passing-backed (λ dated. ltb dated.place first) older entries backed (λ key dated is late. (one key dated is).single late);
}
  where
    one : (key : Key) (dated : Dated) → lookup (key_eq key) entries ≡ Some dated → OfOne first older key dated
    one key dated is =
        let own = own-is older key entries (Some dated) backed.distinct is in
        of-one first end older key dated (replaced_of key older) refl
        (subst (AreBetween 0 end) own (chained.ordered key))
        (subst (AreWrittenBelow first) (chained.replacing key ∙ ap replacing_of own)
        (all-filter (λ (write : Written). write.place < first) _ (map replacing_write older) each))

-- this many versions go as entries do, where each of these has a single one
count-passing : (test : Dated → Bool) (older : List Replaced) (entries : Entries)
    → AllByRecursion (λ (entry : Key × Dated). test entry.1 ≡ false → replaced_of entry.0 older ≡ []) entries
    → length (versions_in older entries) + length (passing test entries) ≡ length (versions_in older (passing test entries)) + length entries
count-passing test older [] each = refl
count-passing test older (entry ∷ entries) each =
    let rest = count-passing test older entries each.1 in
    let whole = length-append (versions_of older entry) (versions_in older entries) in
    by_cases (test entry.1)
    (λ hit. rw hit (omega (arith, rest, whole, length-append (versions_of older entry) (versions_in older (passing test entries)))))
    (λ miss. let one : length (versions_of older entry) ≡ 1 = simp (each.0 miss) in rw miss (omega (arith, rest, whole, one)))

-- whether the version tells a row, or isn't below the mark
abbrev pub is_alive : ℕ → Dated → Bool
is_alive mark dated = not (ltb dated.place mark && is_none dated.row)

module _ (mark end : ℕ) (older : List Replaced) (entries : Entries) (absent : List Written) (backed : AreBacked older entries)
    (kept : IsStoreKept (held_in older entries) absent mark end) where
  single : (key : Key) (dated : Dated) → lookup (key_eq key) entries ≡ Some dated → is_alive mark dated ≡ false → replaced_of key older ≡ []
  single key dated is nothing =
      (spent-alone mark older entries key backed
      (spent-found mark end older entries absent key dated kept backed is ∙ not-false (ltb dated.place mark && is_none dated.row) nothing)).2

  pub alive-backed : (key : Key) → lookup (key_eq key) (passing (is_alive mark) entries) ≡ None → replaced_of key older ≡ []
  alive-backed = passing-backed (is_alive mark) older entries backed single

  pub alive-left : AreBacked older (passing (is_alive mark) entries)
      → (key : Key) → of_key key (versions_in older (passing (is_alive mark) entries)) ≡ swept mark (of_key key (versions_in older entries))
  alive-left also key =
      let one = lookup (key_eq key) entries in
      own-is older key (passing (is_alive mark) entries) (option_filter (is_alive mark) one) also.distinct
      (lookup-filter-values keys-equiv (is_alive mark) key entries backed.distinct)
      ∙ swept-own one refl
      ∙ sym (ap (swept mark) (own-is older key entries one backed.distinct refl))
    where
      swept-own : (one : Option Dated) → lookup (key_eq key) entries ≡ one
          → own_of older key (option_filter (is_alive mark) one) ≡ swept mark (own_of older key one)
      swept-own None is = refl
      swept-own (Some dated) is =
          let spent : is_spent mark (own_of older key (Some dated)) ≡ (ltb dated.place mark && is_none dated.row) =
          sym (ap (is_spent mark) (own-is older key entries (Some dated) backed.distinct is))
          ∙ spent-found mark end older entries absent key dated kept backed is in
          rw spent (by_cases (ltb dated.place mark && is_none dated.row) (λ nothing. rw nothing refl) (λ tells. rw tells refl))

  -- how many versions are left
  pub alive-count : length (versions_in older entries) + length (passing (is_alive mark) entries)
      ≡ length (versions_in older (passing (is_alive mark) entries)) + length entries
  alive-count =
      count-passing (is_alive mark) older entries
      (all-found (λ key dated. is_alive mark dated ≡ false → replaced_of key older ≡ []) entries backed.distinct single)
