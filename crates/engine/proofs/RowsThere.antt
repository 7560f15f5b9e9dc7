-- The rows that are there by a store that is right for a log.
use Rattle.std.proofs.Common.{◌≡◌, ◌≤◌, ◌∙◌, ℕ, List, Some, arith, subst, sym}
use Rattle.std.proofs.lemmas.List.Elements.{All-weaker}
use Rattle.model_base.specs.declared.row.Key.{Key}
use Rattle.model_base.specs.declared.statement.Statement.{Statement}
use Rattle.model_base.specs.Outcomes.{rows_before}
use Rattle.model_base.specs.Rows.{Rows}
use Rattle.chains.specs.RowsThere.{AreRowsThere}
use Rattle.chains.specs.Store.{IsRight, Store, rows_at_end}
use Rattle.chains.specs.declared.listing.RowThere.{RowThere}

-- rows that are there by one map are so by another that gives the same
rows-same : (one other : Rows) (found : List RowThere) → ((key : Key) → one key.table key.row ≡ other key.table key.row) → AreRowsThere one found
    → AreRowsThere other found
rows-same one other found same are = record {
  rising = are.rising;
  there =
      All-weaker (λ (row : RowThere). one row.key.table row.key.row ≡ Some row.values)
      (λ (row : RowThere). other row.key.table row.key.row ≡ Some row.values) (λ row is. sym (same row.key) ∙ is) found are.there;
  all = λ key values is. are.all key values (same key ∙ is);
}

pub rows-of-log : (log : List Statement) (store : Store) (place : ℕ) (found : List RowThere) → IsRight log store → store.end ≡ place
    → store.mark ≤ store.end → AreRowsThere (rows_at_end store) found → AreRowsThere (rows_before log place) found
rows-of-log log store place found right ends within are =
    subst (λ (n : ℕ). AreRowsThere (rows_before log n) found) ends
    (rows-same (rows_at_end store) (rows_before log store.end) found (λ key. right store.end key within (omega arith)) are)
