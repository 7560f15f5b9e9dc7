use Rattle.std.specs.Prelude.{Ok}
use Rattle.batched_text.specs.Foretold.{Runs}
use Rattle.batched_text.proofs.foretold.report_foretold.Given as goal

abbrev pub invariant-turns : goal.invariant-turns
invariant-turns g l = Runs l.runner.plan l.buffered l.initial.at l.initial.run l.run (Ok l.at)
