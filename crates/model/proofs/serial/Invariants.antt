use Rattle.std.proofs.Common.{◌≡◌, ◌++◌, drop}
use Rattle.model_base.specs.Outcomes.{empty_world}
use Rattle.model.specs.State.{world_of}
use Rattle.model.proofs.Outcomes.{outcomes_from}
use Rattle.model.proofs.serial.Given as goal

-- what is found, with the outcomes of the statements that are left, is the outcomes of all
abbrev pub invariant-loop-place : goal.invariant-loop-place
invariant-loop-place l =
    l.outcomes.items ++ outcomes_from l.owners.items l.place (world_of l.state) (drop l.place l.statements)
    ≡ outcomes_from l.owners.items 0 empty_world l.statements
