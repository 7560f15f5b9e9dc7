use Rattle.std.proofs.Common.{◌≡◌, ◌+◌, [], length, map, take}
use Rattle.model_base.specs.declared.statement.Access.{Access}
use Rattle.model_base.specs.Outcomes.{rows_before}
use Rattle.evaluation.proofs.rows.show_rows.Given as goal

-- the rows so far are those before the reader's place
abbrev pub invariant-loop-place : goal.invariant-loop-place
invariant-loop-place g l = record {
  source : g.T.ReadSource.as_reader l.source ≡ g.T.ReadSource.as_reader l.initial.source;
  kept : g.T.ReadSource.work l.source ≡ g.T.ReadSource.work l.initial.source;
  seen :
      take l.place l.window.rows
      ≡ map (λ (access : Access). rows_before l.batch.log.statements (l.batch.first + l.index) access.key.table access.key.row) (take l.place l.accesses);
  fresh : l.window.outputs ≡ [];
  whole : length l.window.rows ≡ 16;
}
