-- A map of which one entry changed: the rows that it holds, and the keys that have an entry.
use Rattle.std.proofs.Common.{◌≡◌, ℕ, ℤ, true, false, Option, Some, None, List, refl, sym, ◌∙◌, ap, cond, subst}
use Rattle.std.specs.Prelude.{unwrap_or, is_some, IsSome}
use mathlib.Core.Path.{fun_ext}
use Rattle.std.specs.HashMap.{get}
use Rattle.model_base.specs.Rows.{with_row}
use Rattle.model_base.specs.declared.row.Key.{Key}
use Rattle.body.specs.declared.row_map.RowMap.{RowMap}
use Rattle.body.specs.RowMap.{key_eq, entry_of, rows_of, HasEntry}
use Rattle.body.specs.Room.{same_key}
use Rattle.body.proofs.Rows.{same_key-true, same_key-own, with_row-own}
use Rattle.model_base.proofs.Replay.{by_cases}

abbrev key : ℕ → ℕ → Key
key t r = record { table = t; row = r }

-- the second map has this entry at the key, and the first map's at each other key
abbrev pub Puts : RowMap → RowMap → Key → Option (Option (List ℤ)) → Type 0
Puts m n k w = (q : Key) → get key_eq n.entries q ≡ cond (key_eq k q) w (get key_eq m.entries q)

module _ (m n : RowMap) (t r : ℕ) (w : Option (Option (List ℤ))) (puts : Puts m n (record { table = t; row = r }) w) where
  entry_put : (u s : ℕ) → entry_of n u s ≡ cond (same_key t r u s) w (entry_of m u s)
  entry_put u s = puts (key u s)

  -- the rows change at the key alone
  pub rows_put : rows_of n ≡ with_row (rows_of m) t r (unwrap_or w None)
  rows_put = fun_ext (λ u. fun_ext (λ s. at u s))
    where
      at : (u s : ℕ) → rows_of n u s ≡ with_row (rows_of m) t r (unwrap_or w None) u s
      at u s =
          ap (λ e. unwrap_or e None) (entry_put u s)
          ∙ by_cases (same_key t r u s) (λ same. rw same refl) (λ other. rw other refl)

  -- an entry that shows the row which was there changes no row
  pub rows_kept : unwrap_or w None ≡ rows_of m t r → rows_of n ≡ rows_of m
  rows_kept same = rows_put ∙ with_row-own (rows_of m) t r (unwrap_or w None) same

  -- no key loses its entry
  pub entries_kept : IsSome w → (u s : ℕ) → HasEntry m u s → HasEntry n u s
  entries_kept there u s had =
      let P : Option (Option (List ℤ)) → Type 0 = λ e. IsSome e in
      subst P (sym (entry_put u s))
      (by_cases (same_key t r u s) (λ same. rw same there) (λ other. rw other had))

  -- an entry is new at most at the key
  pub entries_elsewhere : (u s : ℕ) → same_key t r u s ≡ false → HasEntry n u s → HasEntry m u s
  entries_elsewhere u s other has =
      let P : Option (Option (List ℤ)) → Type 0 = λ e. IsSome e in
      subst P (entry_put u s ∙ rw other refl) has

  -- an entry that takes another's place is not new
  pub no_more : (IsSome w → HasEntry m t r) → (u s : ℕ) → HasEntry n u s → HasEntry m u s
  no_more had u s has =
      by_cases (same_key t r u s)
      (λ same. let keys : (t ≡ u) × (r ≡ s) = same_key-true t r u s same in let E : Option (Option (List ℤ)) → Type 0 = λ e. IsSome e in let at : HasEntry m t r = had (subst E (entry_put u s ∙ rw same refl) has) in let P : ℕ → Type 0 = λ k. HasEntry m k r in let Q : ℕ → Type 0 = λ k. HasEntry m u k in subst Q keys.1 (subst P keys.0 at))
      (λ other. entries_elsewhere u s other has)

  -- the entry at the key is the one that was put
  pub entry_at : entry_of n t r ≡ w
  entry_at = entry_put t r ∙ rw (same_key-own t r) refl

-- a key without an entry has no row
pub absent : (m : RowMap) (t r : ℕ) → is_some (entry_of m t r) ≡ false → None ≡ rows_of m t r
absent m t r none = by_entry (entry_of m t r) none
  where
    by_entry : (e : Option (Option (List ℤ))) → is_some e ≡ false → None ≡ unwrap_or e None
    by_entry None none = refl
    by_entry (Some e) none = let no : true ≡ false = none in cc

-- an entry shows its row
pub shown : (m : RowMap) (t r : ℕ) (e : Option (List ℤ)) → Some e ≡ entry_of m t r → e ≡ rows_of m t r
shown m t r e is = ap (λ x. unwrap_or x None) is
