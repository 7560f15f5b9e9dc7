-- The entries of a map: where that of a key stands, the versions that the queue of replaced ones gives it, and what a change makes of them.
use Rattle.std.proofs.Common.{cond, ◌≡◌, true, false, Option, Some, None, List, [], ◌∷◌, ◌++◌, map, refl, sym, ◌∙◌, ap, subst, arith, ℕ, ◌≤◌, ℤ, ltb, filter, length}
use Rattle.std.specs.List.{AllByRecursion, IsDistinct}
use Rattle.std.specs.Cmp.{IsEquivalence}
use Rattle.std.specs.Map.{keys_of, lookup, set_value}
use Rattle.std.proofs.lemmas.Bool.Decides.{nat_tests}
use Rattle.std.proofs.lemmas.Grind.{flat_map-append}
use Rattle.std.proofs.lemmas.List.{append-nil, map-append, length-append, length-map}
use Rattle.std.proofs.lemmas.List.Elements.{filter-append}
use Rattle.std.proofs.lemmas.Map.{NonePasses, lookup-none, none_passes_from_lookup}
use Rattle.std.proofs.lemmas.Option.{none-some}
use Rattle.model_base.specs.declared.row.Key.{Key}
use Rattle.body.specs.RowMap.{key_eq}
use Rattle.body.proofs.Rows.{same_key-own}
use Rattle.chains.specs.declared.replaced.Dated.{Dated}
use Rattle.chains.specs.declared.replaced.Replaced.{Replaced}
use Rattle.chains.specs.declared.version.Version.{Version}
use Rattle.chains.specs.Keyed.{AreBacked, replaced_of, version_at, versions_in, versions_of, Held, held_below, held_in, newest_below, replacing_write, without_last}
use Rattle.chains.specs.Store.{of_key, newest_or}
use Rattle.chains.proofs.Keyed.{among, among-own, key-is, other-key, among-below, among-last, among-put, newest-of_key}
use Rattle.model_base.proofs.Replay.{by_cases}
use Rattle.std.proofs.lemmas.Bool.{cond_both}
use Rattle.std.proofs.lemmas.List.Sums.{fold-append}
use Rattle.chains.specs.declared.writes.Written.{Written}
use Rattle.chains.specs.Kept.{replacing_after, written_by}

abbrev pub Entries : Type 0
Entries = List (Key × Dated)

-- the entries are of other keys
abbrev pub AreOthers : Key → Entries → Type 0
AreOthers key entries = NonePasses (key_eq key) entries

-- the replaced versions of a key with one more after the others
pub more-own : (one : Replaced) (older : List Replaced) → replaced_of one.key (older ++ one ∷ []) ≡ replaced_of one.key older ++ one.version ∷ []
more-own one older = simp (filter-append, same_key-own, map-append)

pub more-other : (one : Replaced) (older : List Replaced) (key : Key) → key_eq one.key key ≡ false
    → replaced_of key (older ++ one ∷ []) ≡ replaced_of key older
more-other one older key differ = simp (filter-append, differ, append-nil)

-- the versions of other keys stay, where the queue has the same of them
others-same : (older other : List Replaced) (key : Key) → ((k : Key) → key_eq key k ≡ false → replaced_of k other ≡ replaced_of k older)
    → (entries : Entries) → AreOthers key entries → versions_in other entries ≡ versions_in older entries
others-same older other key same [] others = refl
others-same older other key same (entry ∷ entries) others = simp (same entry.0 others.0, others-same older other key same entries others.1)

-- and none of them is of the key
pub others-none : (key : Key) (older : List Replaced) (entries : Entries) → AreOthers key entries → of_key key (versions_in older entries) ≡ []
others-none key older [] others = refl
others-none key older (entry ∷ entries) others =
    let differ : key_eq entry.0 key ≡ false = grind (arith, nat_tests, others.0) in
    simp (filter-append, other-key entry.0 key differ, others-none key older entries others.1)

pub absent-none : (key : Key) (older : List Replaced) (entries : Entries) → lookup (key_eq key) entries ≡ None
    → of_key key (versions_in older entries) ≡ []
absent-none key older entries none = others-none key older entries (none_passes_from_lookup (key_eq key) entries none)

pub all-others : (key : Key) (entries : Entries) → AllByRecursion (λ y. key_eq key y ≡ false) (keys_of entries) → AreOthers key entries
all-others key [] each = tt
all-others key (entry ∷ entries) each = (each.0, all-others key entries each.1)

-- where the entry of a key stands
pub data Found (key : Key) (dated : Dated) : Entries → Type 0 where
  stands : (before after : Entries) → AreOthers key before → AreOthers key after → Found key dated (before ++ (key, dated) ∷ after)

found-later : (key : Key) (dated : Dated) (entry : Key × Dated) (entries : Entries) → key_eq key entry.0 ≡ false → Found key dated entries
    → Found key dated (entry ∷ entries)
found-later key dated entry entries miss (stands before after front back) = stands (entry ∷ before) after (miss, front) back

pub found : (key : Key) (dated : Dated) (entries : Entries) → IsDistinct key_eq (keys_of entries)
    → lookup (key_eq key) entries ≡ Some dated → Found key dated entries
unfolding IsDistinct
found key dated [] distinct is = cc
found key dated (entry ∷ entries) distinct is =
    by_cases (key_eq key entry.0)
    (λ hit. let same = key-is key entry.0 hit in
    let some = rw hit at is in
    let value : dated ≡ entry.1 = cc in
    subst (λ (one : Key × Dated). Found key dated (one ∷ entries)) (λ i. (same i, value i))
    (stands [] entries tt (subst (λ (k : Key). AreOthers k entries) (sym same) (all-others entry.0 entries distinct.0))))
    (λ miss. found-later key dated entry entries miss (found key dated entries distinct.1 (rw miss at is)))

-- another value written there
pub written : (key : Key) (dated other : Dated) (before after : Entries) → AreOthers key before
    → set_value (key_eq key) (before ++ (key, dated) ∷ after) other ≡ before ++ (key, other) ∷ after
written key dated other [] after others = simp same_key-own
written key dated other (entry ∷ before) after others = rw others.0 (ap (λ es. entry ∷ es) (written key dated other before after others.1))

-- the versions, where the entry of a key is between others, by a queue that has the same of these
pub around : (older other : List Replaced) (key : Key) (dated : Dated) (before after : Entries) → AreOthers key before → AreOthers key after
    → ((k : Key) → key_eq key k ≡ false → replaced_of k other ≡ replaced_of k older)
    → versions_in other (before ++ (key, dated) ∷ after)
    ≡ among key (versions_in older before) (versions_in older after) (replaced_of key other ++ dated ∷ [])
around older other key dated before after others_before others_after same =
    let front = others-same older other key same before others_before in
    let back = others-same older other key same after others_after in
    flat_map-append (versions_of other) before ((key, dated) ∷ after)
    ∙ (λ i. front i ++ (map (version_at key) (replaced_of key other ++ dated ∷ []) ++ back i))

-- the versions of a key with this entry
abbrev pub own_of : List Replaced → Key → Option Dated → List Version
own_of older key None = []
own_of older key (Some dated) = map (version_at key) (replaced_of key older ++ dated ∷ [])

pub own-is : (older : List Replaced) (key : Key) (entries : Entries) (one : Option Dated) → IsDistinct key_eq (keys_of entries)
    → lookup (key_eq key) entries ≡ one → of_key key (versions_in older entries) ≡ own_of older key one
own-is older key entries None distinct is = absent-none key older entries is
own-is older key entries (Some dated) distinct is = own_found entries (found key dated entries distinct is)
  where
    own_found : (entries : Entries) → Found key dated entries → of_key key (versions_in older entries) ≡ own_of older key (Some dated)
    own_found entries (stands before after front back) =
        ap (of_key key) (around older older key dated before after front back (λ k differ. refl))
        ∙ among-own key (versions_in older before) (versions_in older after) (others-none key older before front) (others-none key older after back)
        (replaced_of key older ++ dated ∷ [])

pub keys-equiv : IsEquivalence key_eq
keys-equiv = record {
  refl = λ x. same_key-own x.table x.row;
  symm = λ x y. grind (arith, nat_tests);
  congr = λ x y z same. ap (λ (k : Key). key_eq k z) (key-is x y same);
}

-- what holds of each entry that is found holds of all
pub all-found : (P : Key → Dated → Type 0) (entries : Entries) → IsDistinct key_eq (keys_of entries)
    → ((key : Key) (dated : Dated) → lookup (key_eq key) entries ≡ Some dated → P key dated)
    → AllByRecursion (λ (entry : Key × Dated). P entry.0 entry.1) entries
unfolding IsDistinct
all-found P [] distinct each = tt
all-found P (entry ∷ entries) distinct each = (
  each entry.0 entry.1 (simp same_key-own),
  all-found P entries distinct.1 (λ key dated is. each key dated (behind key dated is)),
)
  where
    behind : (key : Key) (dated : Dated) → lookup (key_eq key) entries ≡ Some dated → lookup (key_eq key) (entry ∷ entries) ≡ Some dated
    behind key dated is =
        by_cases (key_eq key entry.0)
        (λ hit. let none : lookup (key_eq entry.0) entries ≡ None = lookup-none (key_eq entry.0) entries (all-others entry.0 entries distinct.0) in
        absurd (none-some dated (sym none ∙ ap (λ (k : Key). lookup (key_eq k) entries) (sym (key-is key entry.0 hit)) ∙ is)))
        (λ miss. rw miss is)

-- a key without an entry has no replaced version, after each change
abbrev IsBackedBy : List Replaced → (Key → Option Dated) → Type 0
IsBackedBy older found = (key : Key) → found key ≡ None → replaced_of key older ≡ []

-- the entry of one key was written or taken out, and the queue has the same of each other key
pub backed-by : (older other : List Replaced) (own : Key) (old new : Key → Option Dated) (value : Option Dated)
    → ((key : Key) → new key ≡ cond (key_eq own key) value (old key)) → (value ≡ None → replaced_of own older ≡ [])
    → ((key : Key) → key_eq own key ≡ false → replaced_of key older ≡ replaced_of key other) → IsBackedBy other old → IsBackedBy older new
backed-by older other own old new value updates single stays backed key none =
    by_cases (key_eq own key)
    (λ same. ap (λ (k : Key). replaced_of k older) (sym (key-is own key same)) ∙ single (sym (rw same at (updates key)) ∙ none))
    (λ differ. stays key differ ∙ backed key (sym (rw differ at (updates key)) ∙ none))

-- the key of a replaced version has an entry
abbrev pub HasNewest : Key → Entries → Type 0
HasNewest key entries = (newest : Dated) × (lookup (key_eq key) entries ≡ Some newest)

pub has-newest : (key : Key) (entries : Entries) → (lookup (key_eq key) entries ≡ None → ⊥) → HasNewest key entries
has-newest key entries some = by_lookup (lookup (key_eq key) entries) refl
  where
    by_lookup : (one : Option Dated) → lookup (key_eq key) entries ≡ one → HasNewest key entries
    by_lookup None is = absurd (some is)
    by_lookup (Some newest) is = (newest, is)

pub none-both : {X : Type 0} (xs ys : List X) → xs ++ ys ≡ [] → (xs ≡ []) × (ys ≡ [])
none-both [] ys none = (refl, none)
none-both (x ∷ xs) ys none = cc

pub last-has : (older : List Replaced) (one : Replaced) (entries : Entries) → AreBacked (older ++ one ∷ []) entries → HasNewest one.key entries
last-has older one entries backed =
    has-newest one.key entries (λ none.
    let no' = (none-both (replaced_of one.key older) (one.version ∷ []) (sym (more-own one older) ∙ backed.backed one.key none)).1 in cc)

-- the first of the queue are taken out
pub replaced-behind : (key : Key) (taken rest : List Replaced) → replaced_of key (taken ++ rest) ≡ replaced_of key taken ++ replaced_of key rest
replaced-behind key taken rest = simp (filter-append, map-append)

pub backed-behind : (taken rest : List Replaced) (entries : Entries) → AreBacked (taken ++ rest) entries → AreBacked rest entries
backed-behind taken rest entries backed = record {
  distinct = backed.distinct;
  backed = λ key none. (none-both (replaced_of key taken) (replaced_of key rest) (sym (replaced-behind key taken rest) ∙ backed.backed key none)).1;
}

-- a version was put after the others of its key: none of an earlier place was touched
pub record IsPut (version : Version) (old new : Held) : Type 0 where
  pub added : (key : Key) → of_key key new.versions ≡ of_key key (old.versions ++ version ∷ [])
  pub replacing : new.replacing ≡ replacing_after old version
  pub below : (first : ℕ) → first ≤ version.place → held_below first new ≡ held_below first old

abbrev pub dated_of : Version → Dated
dated_of version = record { place = version.place; row = version.row }

-- what was replaced goes after the others that were
abbrev pub replaced_by : Version → Dated → Replaced
replaced_by version old = record { by = version.place; key = version.key; version = old }

put-among : (version : Version) (old new : Held) (front back : List Version) (chain : List Dated)
    → of_key version.key front ≡ [] → of_key version.key back ≡ [] → old.versions ≡ among version.key front back chain
    → new.versions ≡ among version.key front back (chain ++ dated_of version ∷ [])
    → new.replacing ≡ cond (ltb 0 (length chain)) (old.replacing ++ written_by version ∷ []) old.replacing → IsPut version old new
put-among version old new front back chain none_front none_back old_is new_is writes = record {
  added = λ other.
      ap (of_key other) new_is
      ∙ among-put version.key front back none_front none_back chain (dated_of version) other
      ∙ ap (λ (versions : List Version). of_key other (versions ++ version ∷ [])) (sym old_is);
  replacing =
      let own : of_key version.key old.versions ≡ map (version_at version.key) chain =
      ap (of_key version.key) old_is ∙ among-own version.key front back none_front none_back chain in
      let long : length (of_key version.key old.versions) ≡ length chain = ap (λ (vs : List Version). length vs) own ∙ length-map chain _ in
      writes ∙ ap (λ n. cond (ltb 0 n) (old.replacing ++ written_by version ∷ []) old.replacing) (sym long);
  below = λ first least.
      let low = λ (one : Version). ltb one.place first in
      let versions : filter low new.versions ≡ filter low old.versions =
      ap (filter low) new_is
      ∙ among-below version.key front back none_front none_back chain (dated_of version) first least
      ∙ ap (filter low) (sym old_is) in
      let early = λ (write : Written). ltb write.place first in
      let miss : ltb version.place first ≡ false = grind (arith, nat_tests) in
      let notes : filter early new.replacing ≡ filter early old.replacing =
      ap (filter early) writes
      ∙ cond_both (ltb 0 (length chain)) _ _ (λ (ws : List Written). filter early ws ≡ filter early old.replacing)
      (λ some. simp (filter-append, miss, append-nil)) (λ none. refl) in
      λ i. record { versions = versions i; replacing = notes i };
}

pub put-found : (older : List Replaced) (version : Version) (old : Dated) (entries new : Entries) → Found version.key old entries
    → new ≡ set_value (key_eq version.key) entries (dated_of version)
    → IsPut version (held_in older entries) (held_in (older ++ replaced_by version old ∷ []) new)
put-found older version old entries new (stands before after front back) is =
    let key = version.key in
    let one = replaced_by version old in
    let more = older ++ one ∷ [] in
    let chain = replaced_of key older ++ old ∷ [] in
    let some : ltb 0 (length chain) ≡ true = grind (arith, nat_tests, length-append (replaced_of key older) (old ∷ [])) in
    put-among version (held_in older (before ++ (key, old) ∷ after)) (held_in more new) (versions_in older before) (versions_in older after) chain
    (others-none key older before front) (others-none key older after back) (around older older key old before after front back (λ k differ. refl))
    (ap (versions_in more) (is ∙ written key old (dated_of version) before after front)
    ∙ around older more key (dated_of version) before after front back (more-other one older)
    ∙ ap (λ (own : List Dated). among key (versions_in older before) (versions_in older after) (own ++ dated_of version ∷ [])) (more-own one older))
    (rw some (map-append replacing_write older (one ∷ [])))

pub put-new : (older : List Replaced) (version : Version) (entries : Entries) → lookup (key_eq version.key) entries ≡ None
    → replaced_of version.key older ≡ []
    → IsPut version (held_in older entries) (held_in older (entries ++ (version.key, dated_of version) ∷ []))
put-new older version entries absent none =
    let key = version.key in
    let front = versions_in older entries in
    let new = entries ++ (key, dated_of version) ∷ [] in
    put-among version (held_in older entries) (held_in older new) front [] [] (absent-none key older entries absent) refl (sym (append-nil front))
    (around older older key (dated_of version) entries [] (none_passes_from_lookup (key_eq key) entries absent) tt (λ k differ. refl)
    ∙ ap (λ (own : List Dated). among key front [] (own ++ dated_of version ∷ [])) none)
    refl

-- the last replaced version, written back in the place of the one that replaced it
pub last-taken : (older : List Replaced) (one : Replaced) (newest : Dated) (entries new : Entries) → Found one.key newest entries
    → new ≡ set_value (key_eq one.key) entries one.version → versions_in older new ≡ without_last one.key (versions_in (older ++ one ∷ []) entries)
last-taken older one newest entries new (stands before after front back) is =
    let key = one.key in
    let more = older ++ one ∷ [] in
    let early = versions_in older before in
    let late = versions_in older after in
    let chain = replaced_of key older ++ one.version ∷ [] in
    ap (versions_in older) (is ∙ written key newest one.version before after front)
    ∙ around older older key one.version before after front back (λ k differ. refl)
    ∙ sym (among-last key early late (others-none key older before front) (others-none key older after back) chain newest)
    ∙ sym (ap (λ (own : List Dated). without_last key (among key early late (own ++ newest ∷ []))) (more-own one older))
    ∙ sym (ap (without_last key) (around older more key newest before after front back (more-other one older)))

-- the newest of some versions is that of their key's
newest-at : (row : Option (List ℤ)) (key : Key) (chain : List Dated) (place : ℕ)
    → newest_or row (map (version_at key) chain) place key ≡ newest_below row chain place
newest-at row key [] place = refl
newest-at row key (dated ∷ chain) place =
    grind (arith, same_key-own key.table key.row, newest-at (cond (ltb dated.place place) dated.row row) key chain place)

-- what a key with this entry tells before a place: the row of its newest version if that is older, or else the last older one's
abbrev pub told : List Replaced → Key → ℕ → Option Dated → Option (List ℤ)
told older key place None = None
told older key place (Some newest) = cond (ltb newest.place place) newest.row (newest_below None (replaced_of key older) place)

pub newest-told : (older : List Replaced) (entries : Entries) (held : Held) (key : Key) (place : ℕ) (one : Option Dated)
    → held_in older entries ≡ held → AreBacked older entries → one ≡ lookup (key_eq key) entries
    → told older key place one ≡ newest_or None held.versions place key
newest-told older entries held key place one is backed finds =
    sym (newest-of_key None place key (versions_in older entries)
    ∙ ap (λ vs. newest_or None vs place key) (own-is older key entries one backed.distinct (sym finds))
    ∙ tells one)
    ∙ ap (λ (held : Held). newest_or None held.versions place key) is
  where
    tells : (one : Option Dated) → newest_or None (own_of older key one) place key ≡ told older key place one
    tells None = refl
    tells (Some newest) =
        newest-at None key (replaced_of key older ++ newest ∷ []) place
        ∙ fold-append (λ row (version : Dated). cond (ltb version.place place) version.row row) None (replaced_of key older) (newest ∷ [])
