use Rattle.std.proofs.Common.{◌≡◌, take}
use Rattle.std.specs.Prelude.{filter_map}
use Rattle.model_base.specs.RecordGrantees.{grantee_at}
use Rattle.bohm_base.proofs.grantees.granted_to.Given as goal

abbrev pub invariant-loop-name : goal.invariant-loop-name
invariant-loop-name l = l.grantees.items ≡ filter_map (grantee_at l.statements) (take l.name-index l.names)
