use Rattle.std.proofs.Common.{◌≡◌, ◌++◌, drop}
use Rattle.model_base.specs.Outcomes.{owners}
use Rattle.model.proofs.replay.owners.Given as goal

abbrev pub invariant-loop-statement : goal.invariant-loop-statement
invariant-loop-statement l = l.found.items ++ owners (drop l.statement-index l.statements) ≡ owners l.statements
