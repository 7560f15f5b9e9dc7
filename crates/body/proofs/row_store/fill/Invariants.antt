use Rattle.std.proofs.Common.{◌≡◌, [], length, map, take}
use Rattle.model_base.specs.declared.statement.Access.{Access}
use Rattle.body.proofs.row_store.fill.Given as goal

abbrev pub invariant-loop-place : goal.invariant-loop-place
invariant-loop-place g l = record {
  shows : take l.place l.window.rows ≡ map (λ (access : Access). g.S.RowSource.rows l.source access.key.table access.key.row) (take l.place l.accesses);
  fresh : l.window.outputs ≡ [];
  whole : length l.window.rows ≡ 16;
}
