use Rattle.std.proofs.Common.{◌≡◌, ◌++◌, drop}
use Rattle.model_base.specs.Privileges.{lost}
use Rattle.model.proofs.deeds.lost.Given as goal

abbrev pub invariant-loop-grant : goal.invariant-loop-grant
invariant-loop-grant l = l.names.items ++ lost (drop l.grant-index l.before) l.after ≡ lost l.before l.after
