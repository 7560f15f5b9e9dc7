use Rattle.std.proofs.Common.{◌≡◌, ℕ}
use Rattle.body.specs.Room.{IsLeanBelow}
use Rattle.body.proofs.row_store.release_rows.Given as goal

abbrev pub invariant-loop-access : goal.invariant-loop-access
invariant-loop-access g l = record {
  rows : g.S.RowSource.rows l.store ≡ g.S.RowSource.rows l.initial.store;
  lean : IsLeanBelow (g.S.RowStore.has_room l.store) (g.S.RowSource.rows l.store) l.access-index l.accesses;
  no_more : (table row : ℕ) → g.S.RowStore.has_room l.store table row → g.S.RowStore.has_room l.initial.store table row;
}
