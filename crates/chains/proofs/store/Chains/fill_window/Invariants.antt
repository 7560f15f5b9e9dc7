use Rattle.std.proofs.Common.{◌≡◌, [], length, map, take}
use Rattle.model_base.specs.declared.statement.Access.{Access}
use Rattle.chains.specs.Store.{rows_at_end}
use Rattle.chains.proofs.store.Chains.fill_window.Given as goal

abbrev pub invariant-loop-index : goal.invariant-loop-index
invariant-loop-index l = record {
  shows : take l.index l.window.rows ≡ map (λ (access : Access). rows_at_end l.self access.key.table access.key.row) (take l.index l.accesses);
  fresh : l.window.outputs ≡ [];
  whole : length l.window.rows ≡ 16;
}
