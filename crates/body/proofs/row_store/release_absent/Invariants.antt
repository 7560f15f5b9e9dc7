use Rattle.std.proofs.Common.{◌≡◌, ℕ}
use Rattle.body.specs.Room.{IsLeanWhereAbsent}
use Rattle.body.proofs.row_store.release_absent.Given as goal

abbrev pub invariant-loop-place : goal.invariant-loop-place
invariant-loop-place g l = record {
  rows : g.S.RowSource.rows l.store ≡ g.S.RowSource.rows l.initial.store;
  lean : IsLeanWhereAbsent (g.S.RowStore.has_room l.store) (g.S.RowSource.rows l.store) l.place l.accesses l.window.rows;
  no_more : (table row : ℕ) → g.S.RowStore.has_room l.store table row → g.S.RowStore.has_room l.initial.store table row;
}
