use Rattle.std.proofs.Common.{◌-◌, length}
use Rattle.std.specs.Prelude.{Ok}
use Rattle.batched_text.specs.Foretold.{Runs}
use Rattle.batched_text.proofs.foretold.report_until.Given as goal

abbrev pub invariant-lines : goal.invariant-lines
invariant-lines g l = Runs l.runner.plan l.buffered l.initial.at l.initial.run l.run (Ok l.at)

abbrev pub decreases-lines : goal.decreases-lines
decreases-lines g l = length l.buffered.bytes.now - l.at
