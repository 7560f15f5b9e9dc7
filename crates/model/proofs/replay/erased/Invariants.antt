use Rattle.std.proofs.Common.{◌≡◌, ◌++◌, drop}
use Rattle.model_base.specs.Privileges.{erased}
use Rattle.model.proofs.replay.erased.Given as goal

abbrev pub invariant-loop-i : goal.invariant-loop-i
invariant-loop-i l = l.grants.items ++ erased (drop l.i l.deeds) ≡ erased l.deeds
