use Rattle.std.proofs.Common.{◌≡◌, ◌++◌, drop, []}
use Rattle.model_base.specs.Privileges.{replayed}
use Rattle.model.proofs.replay.replayed.Given as goal

-- what stands, with the replay of the rest, is the whole replay
abbrev pub invariant-loop-grant : goal.invariant-loop-grant
invariant-loop-grant l =
    l.standing.items ++ replayed l.owners l.standing.items (drop l.grant-index l.grants) ≡ replayed l.owners [] l.grants
