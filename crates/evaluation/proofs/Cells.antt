-- The version cells of some accesses, one after another.
use Rattle.std.proofs.Common.{◌≡◌, ◌<◌, ◌+◌, ◌≤◌, ◌++◌, ℕ, ℤ, List, [], ◌∷◌, Bool, true, false, Option, Some, None, get_or, length, take, refl, sym, ◌∙◌, ap, arith, cond, append_assoc, length-append}
use Rattle.std.specs.Prelude.{All, filter}
use Rattle.std.specs.List.{flat_map}
use Rattle.std.proofs.lemmas.Grind.{flat_map-append}
use Rattle.std.proofs.lemmas.List.{append-nil, get_or-map, get_or-take, length-map, length-replicate}
use Rattle.std.proofs.lemmas.List.Elements.{All-get_or, filter_more}
use Rattle.model_base.specs.declared.statement.Access.{Access}
use Rattle.model_base.specs.Rows.{Rows}
use Rattle.model_base.specs.Versions.{is_writing}
use Rattle.body.specs.declared.window.Window.{Window}
use Rattle.body.specs.Shape.{HasColumns}
use Rattle.body.specs.Shown.{WindowShows}
use Rattle.own_words.specs.Words.{bits, row_words}
use Rattle.evaluation.specs.Answering.{IsShaped, columns_in}
use Rattle.evaluation.specs.Judged.{cells_at}

-- the row of the access at a place is the window's
pub row_shown : (accesses : List Access) (window : Window) (rows : Rows) (place : ℕ) (access : Access) → WindowShows accesses window rows
    → place < length accesses → access ≡ get_or accesses place access
    → get_or window.rows place None ≡ rows access.key.table access.key.row
row_shown accesses window rows place access shows below is =
    sym (get_or-take (length accesses) window.rows place None below)
    ∙ ap (λ contents. get_or contents place None) shows
    ∙ get_or-map (λ (a : Access). rows a.key.table a.key.row) accesses place access None below
    ∙ ap (λ (a : Access). rows a.key.table a.key.row) (sym is)

-- so it has the columns of its table
pub row_shaped : (columns : ℕ → ℕ) (accesses : List Access) (window : Window) (place : ℕ) (access : Access) → IsShaped columns accesses window
    → place < length accesses → access ≡ get_or accesses place access
    → HasColumns (columns access.key.table) (get_or window.rows place None)
row_shaped columns accesses window place access shaped below is =
    rw (row_shown accesses window shaped.rows place access shaped.shows below is) (shaped.shape access.key.table access.key.row)

-- and the table has few columns
pub columns_narrow : (columns : List ℕ) (accesses : List Access) (place : ℕ) (access : Access)
    → All (λ count. count ≤ 8) columns → All (λ (a : Access). a.key.table < length columns) accesses
    → place < length accesses → access ≡ get_or accesses place access → columns_in columns access.key.table ≤ 8
columns_narrow columns accesses place access narrow tables below is =
    let known : access.key.table < length columns = omega (arith, tables place access below, ap (λ (a : Access). a.key.table) is) in
    All-get_or (λ count. count ≤ 8) columns access.key.table 0 known narrow

-- the cells of one access more
pub cells_more : (columns : ℕ → ℕ) (accesses : List Access) (rows : Rows) (place : ℕ) (access : Access)
    → place < length accesses → access ≡ get_or accesses place access
    → cells_at columns (take (place + 1) accesses) rows
    ≡ cells_at columns (take place accesses) rows
    ++ cond (is_writing access) (row_words (columns access.key.table) (rows access.key.table access.key.row)) []
cells_more columns accesses rows place access below is =
    let words = λ (a : Access). row_words (columns a.key.table) (rows a.key.table a.key.row) in
    ap (flat_map words) (filter_more is_writing accesses place access below)
    ∙ flat_map-append words (filter is_writing (take place accesses)) (cond (is_writing (get_or accesses place access)) (get_or accesses place access ∷ []) [])
    ∙ ap (λ (a : Access). cells_at columns (take place accesses) rows ++ flat_map words (cond (is_writing a) (a ∷ []) [])) (sym is)
    ∙ ap (λ behind. cells_at columns (take place accesses) rows ++ behind) (single (is_writing access))
  where
    single : (b : Bool) → flat_map (λ (a : Access). row_words (columns a.key.table) (rows a.key.table a.key.row)) (cond b (access ∷ []) [])
        ≡ cond b (row_words (columns access.key.table) (rows access.key.table access.key.row)) []
    single true = append-nil (row_words (columns access.key.table) (rows access.key.table access.key.row))
    single false = refl

-- a cell has a word for whether the row is there, and one for each column
cell_length : (columns : ℕ) (row : Option (List ℤ)) → HasColumns columns row → length (row_words columns row) ≡ 1 + columns
cell_length columns None has = omega (arith, length-replicate {A = ℕ} columns 0)
cell_length columns (Some row) has = omega (arith, length-map row bits, has)

-- the words with a cell more
pub longer_by_cell : (columns : ℕ) (row : Option (List ℤ)) (words : List ℕ) → HasColumns columns row → columns ≤ 8
    → length (words ++ row_words columns row) ≤ length words + 9
longer_by_cell columns row words has narrow =
    omega (arith, length-append words (row_words columns row), cell_length columns row has)

module _ (columns : ℕ → ℕ) (accesses : List Access) (rows : Rows) (place : ℕ) (access : Access)
    (below : place < length accesses) (is : access ≡ get_or accesses place access) (front words : List ℕ)
    (so_far : words ≡ front ++ cells_at columns (take place accesses) rows) where
  -- after the cells so far stands that of an access that may change its row
  pub with_cell : (row : Option (List ℤ)) → is_writing access ≡ true → row ≡ rows access.key.table access.key.row
      → words ++ row_words (columns access.key.table) row ≡ front ++ cells_at columns (take (place + 1) accesses) rows
  with_cell row writing same =
      rw (same, so_far, cells_more columns accesses rows place access below is, writing)
      (append_assoc front (cells_at columns (take place accesses) rows) (row_words (columns access.key.table) (rows access.key.table access.key.row)))

  -- and none of one that only reads
  pub without_cell : is_writing access ≡ false → words ≡ front ++ cells_at columns (take (place + 1) accesses) rows
  without_cell reading =
      rw (so_far, cells_more columns accesses rows place access below is, reading)
      (ap (λ cells. front ++ cells) (sym (append-nil (cells_at columns (take place accesses) rows))))
