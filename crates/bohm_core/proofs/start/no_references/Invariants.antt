use Rattle.std.proofs.Common.{◌≡◌}
use Rattle.bohm_core_base.specs.Machine.{empty_references}
use Rattle.bohm_core.specs.Storage.{lists_of}
use Rattle.bohm_core.proofs.start.no_references.Given as goal

abbrev pub invariant-loop-index : goal.invariant-loop-index
invariant-loop-index g l = lists_of l.references.items ≡ empty_references (g.S.Statements.batch l.statements) l.index
