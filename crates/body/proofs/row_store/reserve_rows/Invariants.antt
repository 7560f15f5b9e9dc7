use Rattle.std.proofs.Common.{◌≡◌}
use Rattle.body.specs.Room.{HasRoomBelow, MakesRoomBelow}
use Rattle.body.proofs.row_store.reserve_rows.Given as goal

abbrev pub invariant-loop-place : goal.invariant-loop-place
invariant-loop-place g l = record {
  rows : g.S.RowSource.rows l.store ≡ g.S.RowSource.rows l.initial.store;
  room : HasRoomBelow (g.S.RowStore.has_room l.store) l.place l.accesses l.window.rows;
  elsewhere : MakesRoomBelow (g.S.RowStore.has_room l.initial.store) (g.S.RowStore.has_room l.store) l.place l.accesses;
}
