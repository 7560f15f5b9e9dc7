use Rattle.std.specs.Prelude.{Ok}
use Rattle.batched_text.specs.Foretold.{Runs}
use Rattle.batched_text.proofs.stretches.report_pieces.Given as goal

abbrev pub invariant-turns : goal.invariant-turns
invariant-turns g l = Runs l.runner.plan l.ahead.buffered 0 l.initial.run l.run (Ok l.at)
