use Rattle.std.proofs.Common.{◌≡◌, drop}
use Rattle.model_base.specs.Privileges.{has_grantee}
use Rattle.model_base.proofs.grantees.Grantees.contains.Given as goal

abbrev pub invariant-loop-index : goal.invariant-loop-index
invariant-loop-index l = has_grantee (drop l.index l.self) l.grantee ≡ has_grantee l.self l.grantee
