use Rattle.std.proofs.Common.{Some, ap, map, sym, ◌∙◌}
use Rattle.std.proofs.lemmas.Result.{IfOk-weaker}
use Rattle.bohm_base.proofs.Reporting.{grantees-found}
use Rattle.bohm_base.proofs.serial_log.SerialLogReportedLog.grantees_of.Goals as goal

pub returns : goal.returns
returns c =
    λ place _. IfOk-weaker c.granted_to.result _ _
    (λ grantees is granted. grantees-found c.args.self.now.log.now.statements place c.args.names.now granted ∙ ap (map Some) (sym is))
    (rw c.statements.ensures.value at c.granted_to.ensures)
