use Rattle.std.proofs.Common.{arith}
use Rattle.std.proofs.lemmas.Grind.{common_steps}
use Rattle.std.proofs.lemmas.List.Elements.{filter_map-append}
use Rattle.bohm_base.proofs.grantees.granted_to.Goals.{in-Some+in_ok-push, in_default}
use Rattle.bohm_base.proofs.grantees.granted_to.Goals as goal

pub loop-name-preserved : goal.loop-name-preserved
loop-name-preserved c =
    elim c.match-grantee_of.branch [
      | in-Some+in_ok-push w ↦ grind (arith, common_steps, filter_map-append)
      | in_default w ↦ grind (arith, common_steps, filter_map-append)
    ]
