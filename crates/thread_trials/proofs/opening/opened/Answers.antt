use Rattle.std.proofs.Common.{arith}
use Rattle.thread_trials.proofs.opening.opened.Goals as goal

pub returns-in-Ok-open-clause-placers : goal.returns-in-Ok-open-clause-placers
returns-in-Ok-open-clause-placers c index placer is = ((c.in-Ok-open.ensures.placers.each index placer is).0, omega arith)
