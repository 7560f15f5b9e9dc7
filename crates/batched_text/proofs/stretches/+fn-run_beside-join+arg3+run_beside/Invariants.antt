use Rattle.std.proofs.Common.{◌*◌}
use Rattle.batched_text.proofs.stretches.+fn-run_beside-join+arg3+run_beside.Given as goal

abbrev pub decreases-join+arg3 : goal.decreases-join+arg3
decreases-join+arg3 g l = 2 * l.fewer

abbrev pub decreases-run_beside : goal.decreases-run_beside
decreases-run_beside g l = 2 * l.threads
