use Rattle.std.proofs.Common.{◌≡◌, ◌+◌, ◌-◌, ◌≤◌, ◌++◌, List}
use Rattle.std.specs.Prelude.{vec_capacity, vec_len}
use Rattle.std.specs.List.{flat_map, range_with_len}
use Rattle.model_base.specs.declared.row.Key.{Key}
use Rattle.chains.specs.Store.{of_key, versions_at}
use Rattle.model_base.specs.declared.outcome.Outcome.{Outcome}
use Rattle.engine.specs.RunState.{IsRunState}
use Rattle.engine.specs.Running.{AddsFrom}
use Rattle.filling.specs.Finished.{AreOutcomes}
use Rattle.engine.proofs.in_order.run_in_order.Given as goal

-- the first places are run
abbrev pub invariant-loop-index : goal.invariant-loop-index
invariant-loop-index g l = record {
  stands : IsRunState l.log.log.statements (l.fn.range.start + l.index) l.state.chains l.state.book;
  versions :
      (key : Key) → of_key key l.state.chains.versions
      ≡ of_key key (l.initial.state.chains.versions ++ flat_map (versions_at l.log.log.statements) (range_with_len l.fn.range.start l.index));
  adds : AddsFrom l.fn.range.start l.initial.state l.state;
  came : (found : List Outcome) × (l.outcomes.items ≡ l.initial.outcomes.items ++ found) × AreOutcomes l.log.log.statements l.fn.range.start l.index found;
  room : vec_len l.outcomes + (l.size - l.index) ≤ vec_capacity l.outcomes;
}

abbrev pub ghost-run_kept : goal.ghost-run_kept
ghost-run_kept g a = a.log.now.log
