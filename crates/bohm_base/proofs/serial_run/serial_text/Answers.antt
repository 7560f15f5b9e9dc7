use Rattle.log_text.proofs.Total.{total_in}
use Rattle.bohm_base.proofs.Beginnings.{all_written, nothing_written, some_written}
use Rattle.bohm_base.proofs.RunResults.{fault_reports}
use Rattle.bohm_base.proofs.serial_run.serial_text.Goals as goal

pub returns-in_err-pending-clause-report : goal.returns-in_err-pending-clause-report
returns-in_err-pending-clause-report g c = fault_reports _ _ _ _ c.from_residual.result c.from_residual.ensures.1 (nothing_written total_in _ _)

pub returns-in_err-collected-clause-report : goal.returns-in_err-collected-clause-report
returns-in_err-collected-clause-report g c =
    fault_reports _ _ _ _ c.from_residual-in_err-collected.result c.from_residual-in_err-collected.ensures.1 (nothing_written total_in _ _)

pub returns-clause-report : goal.returns-clause-report
returns-clause-report g c = (
  all_written _ _ _ c.in_ok-collected.collected.log c.in_ok-collected.collected.lines.items c.run_log.result c.in_ok-collected.ensures.whole c.run_log.ensures.done,
  some_written _ _ _ c.in_ok-collected.collected.log c.in_ok-collected.collected.lines.items c.in_ok-collected.ensures.whole c.run_log.ensures.begun,
)
