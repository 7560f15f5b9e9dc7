-- The version cells of a statement's accesses, as they are passed one after another.
use Rattle.std.proofs.Common.{◌≡◌, ◌<◌, ◌+◌, ℕ, suc, true, false, List, ◌∷◌, Some, None, get_or, drop, length, map, refl, sym, ap, ◌∙◌}
use Rattle.std.specs.Prelude.{slice_get}
use Rattle.std.proofs.lemmas.List.{at_drop_more}
use Rattle.model_base.specs.declared.row.Key.{Key}
use Rattle.model_base.specs.declared.statement.Access.{Access as Declared}
use Rattle.model_base.specs.declared.statement.Statement.{Statement}
use Rattle.model_base.specs.Versions.{accesses_of, is_writing}
use Rattle.own_words.specs.Words.{outputs_of}
use Rattle.bohm_core_base.specs.Batch.{cell, cell_of, cells_length, is_key, row_from}
use Rattle.log_batch.specs.Shown.{access_of}
use Rattle.log_batch.specs.Supplied.{LogRange, batch_of}

-- its cell of a key
pub cell_at : (ranged : LogRange) (index : ℕ) (statement : Statement) (own : List ℕ) (key : Key) → slice_get ranged.log.statements (ranged.first + index) ≡ Some statement
    → cell (batch_of ranged) index own key ≡ cell_of (batch_of ranged).columns (map access_of (accesses_of statement.form)) (drop (4 + outputs_of statement.form) own) key
unfolding cell
cell_at ranged index statement own key at = rw at refl

-- where there is no statement there is none
pub cell_past : (ranged : LogRange) (index : ℕ) (own : List ℕ) (key : Key) → slice_get ranged.log.statements (ranged.first + index) ≡ None
    → cell (batch_of ranged) index own key ≡ None
unfolding cell
cell_past ranged index own key at = rw at refl

-- what is found in the cells of the accesses that are left, where the first of them doesn't have it
module _ (columns : Key → ℕ) (accesses : List Declared) (number : ℕ) (access : Declared) (below : number < length accesses) (is : access ≡ get_or accesses number access) where
  left_at : {Y : Type 0} (F : List Declared → Y) → F (drop number accesses) ≡ F (access ∷ drop (number + 1) accesses)
  left_at F = at_drop_more F accesses number access below ∙ ap (λ (one : Declared). F (one ∷ drop (number + 1) accesses)) (sym is)

  -- the cell of a key after that of another
  pub cell_later : (words : List ℕ) (key : Key) → is_writing access ≡ true → is_key access.key key ≡ false
      → cell_of columns (map access_of (drop number accesses)) words key
      ≡ cell_of columns (map access_of (drop (number + 1) accesses)) (drop (suc (columns access.key)) words) key
  cell_later words key writes other = left_at (λ left. cell_of columns (map access_of left) words key) ∙ rw (writes, other) refl

  -- an access that only reads has no cell
  pub cell_read : (words : List ℕ) (key : Key) → is_writing access ≡ false
      → cell_of columns (map access_of (drop number accesses)) words key
      ≡ cell_of columns (map access_of (drop (number + 1) accesses)) words key
  cell_read words key reads = left_at (λ left. cell_of columns (map access_of left) words key) ∙ rw reads refl

  -- how many words the cells have that are left
  pub length_later : is_writing access ≡ true
      → cells_length columns (map access_of (drop number accesses)) ≡ suc (columns access.key) + cells_length columns (map access_of (drop (number + 1) accesses))
  length_later writes = left_at (λ left. cells_length columns (map access_of left)) ∙ rw writes refl

  pub length_read : is_writing access ≡ false
      → cells_length columns (map access_of (drop number accesses)) ≡ cells_length columns (map access_of (drop (number + 1) accesses))
  length_read reads = left_at (λ left. cells_length columns (map access_of left)) ∙ rw reads refl

  -- the cell of the key itself
  pub cell_here : (words : List ℕ) (key : Key) → is_writing access ≡ true → is_key access.key key ≡ true
      → cell_of columns (map access_of (drop number accesses)) words key ≡ row_from (columns access.key) words
  cell_here words key writes same = left_at (λ left. cell_of columns (map access_of left) words key) ∙ rw (writes, same) refl
