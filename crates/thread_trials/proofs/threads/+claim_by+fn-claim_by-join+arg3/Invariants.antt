use Rattle.std.proofs.Common.{◌+◌, ◌*◌}
use Rattle.thread_trials.proofs.threads.+claim_by+fn-claim_by-join+arg3.Given as goal

abbrev pub decreases-join+arg3 : goal.decreases-join+arg3
decreases-join+arg3 g l = 2 * l.thread

abbrev pub decreases-claim_by : goal.decreases-claim_by
decreases-claim_by g l = 2 * l.thread + 1
