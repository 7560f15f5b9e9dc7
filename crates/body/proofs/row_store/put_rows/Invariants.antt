use Rattle.std.proofs.Common.{◌≡◌, ℕ, ◌≤◌, drop, length}
use Rattle.body.specs.Room.{HasRoomBelow}
use Rattle.body.specs.Shown.{with_rows}
use Rattle.body.proofs.row_store.put_rows.Given as goal

abbrev pub invariant-loop-place : goal.invariant-loop-place
invariant-loop-place g l = record {
  rows : g.S.RowSource.rows l.store ≡ with_rows (drop l.place l.accesses) (drop l.place l.window.rows) (g.S.RowSource.rows l.initial.store);
  within : l.place ≤ length l.accesses;
  room : HasRoomBelow (g.S.RowStore.has_room l.store) (length l.accesses) l.accesses l.window.rows;
  no_more : (table row : ℕ) → g.S.RowStore.has_room l.store table row → g.S.RowStore.has_room l.initial.store table row;
}

abbrev pub decreases-loop-place : goal.decreases-loop-place
decreases-loop-place g l = l.place
