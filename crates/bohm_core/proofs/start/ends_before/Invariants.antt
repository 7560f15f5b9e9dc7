use Rattle.std.proofs.Common.{◌≡◌, take}
use Rattle.bohm_core_base.specs.Machine.{start}
use Rattle.bohm_core.proofs.start.ends_before.Given as goal

abbrev pub invariant-loop-slot : goal.invariant-loop-slot
invariant-loop-slot g l = l.ends.items ≡ take l.slot (start (g.S.Statements.batch l.statements)).ends
