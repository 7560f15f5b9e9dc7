use Rattle.std.proofs.Common.{arith}
use Rattle.batched_text.proofs.RunLines.{runs_none}
use Rattle.batched_text.proofs.stretches.run_ahead.Goals as goal

pub returns-in_default : goal.returns-in_default
returns-in_default g c = runs_none c.args.runner.now.plan c.args.buffered.now 0 c.args.run (omega arith) c.requires.ready
