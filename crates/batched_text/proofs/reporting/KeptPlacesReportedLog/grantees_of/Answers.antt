use Rattle.std.proofs.Common.{arith}
use Rattle.std.proofs.lemmas.Result.{IfOk-weaker}
use Rattle.engine.specs.Engine.{Run, finished}
use Rattle.model_base.proofs.Granted.{granted-later}
use Rattle.batched_text.proofs.reporting.KeptPlacesReportedLog.grantees_of.Goals as goal

pub returns : goal.returns
returns c =
    let run : Run = c.args.self.now.engine.now in
    λ place less. IfOk-weaker c.grantees_of.result _ _
    (λ grantees named granted. named (granted-later run.log.statements place (finished run) c.args.names.now (omega (arith, less)) granted))
    c.grantees_of.ensures
