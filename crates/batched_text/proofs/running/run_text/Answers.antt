use Rattle.bohm_base.proofs.Beginnings.{nothing_written}
use Rattle.bohm_base.proofs.RunResults.{fault_reports}
use Rattle.log_text.proofs.Total.{total_in}
use Rattle.batched_text.proofs.ReadSofar.{read_nothing}
use Rattle.batched_text.proofs.running.run_text.Goals as goal

pub returns-then-not-are_within_limits-clause-report : goal.returns-then-not-are_within_limits-clause-report
returns-then-not-are_within_limits-clause-report g c = ((tt, nothing_written total_in _ _), read_nothing total_in _ _)

pub returns-in_err-run_batches-clause-report : goal.returns-in_err-run_batches-clause-report
returns-in_err-run_batches-clause-report g c =
    let reports = c.run_batches.ensures.report in
    (fault_reports _ _ _ _ c.from_residual.result c.from_residual.ensures.1 reports.0.1, reports.1)
