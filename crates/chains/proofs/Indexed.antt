-- The entry at an index of a map is the one that a look-up of its key finds.
use Rattle.std.proofs.Common.{◌≡◌, ℕ, zero, suc, false, Some, None, List, [], ◌∷◌, ◌++◌, refl, subst, sym, ◌∙◌, ap, arith}
use Rattle.std.specs.Prelude.{IfNone, IfSome, IsSome, slice_get}
use Rattle.std.specs.List.{AllByRecursion, IsDistinct}
use Rattle.indexmap.specs.IndexMap.{set_value_at}
use Rattle.std.specs.Map.{keys_of, lookup, set_value, values_of}
use Rattle.std.proofs.lemmas.Bool.Decides.{nat_tests}
use Rattle.std.proofs.lemmas.Map.{keys-set_value, lookup-set_value}
use Rattle.body.specs.RowMap.{key_eq}
use Rattle.body.proofs.Rows.{same_key-own}
use Rattle.model_base.specs.declared.row.Key.{Key}
use Rattle.chains.specs.declared.replaced.Dated.{Dated}
use Rattle.chains.specs.declared.replaced.Replaced.{Replaced}
use Rattle.chains.specs.declared.version.Version.{Version}
use Rattle.chains.specs.Keyed.{AreBacked, held_in}
use Rattle.chains.proofs.Entries.{Entries, IsPut, backed-by, dated_of, found, keys-equiv, more-other, put-found, replaced_by}

-- no other key is before it
other-before : (key : Key) (dated : Dated) (first : Key) (entries : Entries) (index : ℕ) → AllByRecursion (λ y. key_eq first y ≡ false) (keys_of entries)
    → slice_get entries index ≡ Some (key, dated) → key_eq key first ≡ false
other-before key dated first [] index each at = absurd (cc)
other-before key dated first (entry ∷ entries) zero each at =
    let is : entry.0 ≡ key = cc in
    let miss : key_eq first key ≡ false = sym (ap (key_eq first) is) ∙ each.0 in
    grind (arith, nat_tests, miss)
other-before key dated first (entry ∷ entries) (suc index) each at = other-before key dated first entries index each.1 at

pub looked-up : (key : Key) (dated : Dated) (entries : Entries) (index : ℕ) → IsDistinct key_eq (keys_of entries)
    → slice_get entries index ≡ Some (key, dated) → lookup (key_eq key) entries ≡ Some dated
unfolding IsDistinct
looked-up key dated [] index distinct at = absurd (cc)
looked-up key dated (entry ∷ entries) zero distinct at =
    let is : entry.0 ≡ key = cc in
    let value : entry.1 ≡ dated = cc in
    rw is (simp same_key-own (ap Some value))
looked-up key dated (entry ∷ entries) (suc index) distinct at =
    rw (other-before key dated entry.0 entries index distinct.0 at) (looked-up key dated entries index distinct.1 at)

pub set-there : (key : Key) (dated other : Dated) (entries : Entries) (index : ℕ) → IsDistinct key_eq (keys_of entries)
    → slice_get entries index ≡ Some (key, dated) → set_value_at entries index other ≡ set_value (key_eq key) entries other
unfolding IsDistinct
set-there key dated other [] index distinct at = refl
set-there key dated other (entry ∷ entries) zero distinct at =
    let is : entry.0 ≡ key = cc in
    rw is (simp same_key-own)
set-there key dated other (entry ∷ entries) (suc index) distinct at =
    rw (other-before key dated entry.0 entries index distinct.0 at)
    (ap (λ es. entry ∷ es) (set-there key dated other entries index distinct.1 at))

-- what is at the index, by the keys and by the values
pub entry-at : (key : Key) (dated : Dated) (entries : Entries) (index : ℕ) → IfSome (slice_get entries index) (λ entry. entry.0 ≡ key)
    → Some dated ≡ slice_get (values_of entries) index → slice_get entries index ≡ Some (key, dated)
entry-at key dated [] index is value = absurd (cc)
entry-at key dated (entry ∷ entries) zero is value =
    let same : entry.1 ≡ dated = cc in
    λ i. Some (is i, same i)
entry-at key dated (entry ∷ entries) (suc index) is value = entry-at key dated entries index is value

pub none-at : (P : Type 0) (entries : Entries) (index : ℕ) → IfNone (slice_get entries index) P
    → None ≡ slice_get (values_of entries) index → P
none-at P [] index absent none = absent
none-at P (entry ∷ entries) zero absent none = absurd (cc)
none-at P (entry ∷ entries) (suc index) absent none = none-at P entries index absent none

-- a version written at the index of its key, and the one that it replaced after the others that were
module _ (older : List Replaced) (version : Version) (old : Dated) (entries : Entries) (index : ℕ) (backed : AreBacked older entries)
    (at : slice_get entries index ≡ Some (version.key, old)) where
  abbrev key : Key
  key = version.key

  abbrev one : Replaced
  one = replaced_by version old

  finds : lookup (key_eq key) entries ≡ Some old
  finds = looked-up key old entries index backed.distinct at

  sets : set_value_at entries index (dated_of version) ≡ set_value (key_eq key) entries (dated_of version)
  sets = set-there key old (dated_of version) entries index backed.distinct at

  pub put-at : IsPut version (held_in older entries) (held_in (older ++ one ∷ []) (set_value_at entries index (dated_of version)))
  put-at = put-found older version old entries _ (found key old entries backed.distinct finds) sets

  pub backed-at : AreBacked (older ++ one ∷ []) (set_value_at entries index (dated_of version))
  backed-at =
      let new = set_value (key_eq key) entries (dated_of version) in
      subst (AreBacked (older ++ one ∷ [])) (sym sets) (record {
        distinct = subst (IsDistinct key_eq) (sym (keys-set_value (key_eq key) entries (dated_of version))) backed.distinct;
        backed =
            backed-by (older ++ one ∷ []) older key (λ k. lookup (key_eq k) entries) (λ k. lookup (key_eq k) new) (Some (dated_of version))
            (λ k. lookup-set_value keys-equiv (key_eq key) (λ x y same. keys-equiv.congr key x y same) k (dated_of version) entries
            (subst IsSome (sym finds) refl))
            (λ none. cc) (λ k differ. more-other one older k differ) backed.backed;
      })
