use Rattle.bohm_base.proofs.Beginnings.{nothing_written}
use Rattle.log_text.proofs.Total.{total_in}
use Rattle.batched_text.proofs.ReadSofar.{read_nothing}
use Rattle.batched_text.proofs.running.report_text.Goals as goal

pub returns-then-not-are_within_limits-clause-report : goal.returns-then-not-are_within_limits-clause-report
returns-then-not-are_within_limits-clause-report g c = ((tt, nothing_written total_in _ _), read_nothing total_in _ _)
