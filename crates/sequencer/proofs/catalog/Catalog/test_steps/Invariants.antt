use Rattle.std.proofs.Common.{◌≡◌, drop}
use Rattle.sequencer.specs.Refusal.{steps_refusal}
use Rattle.sequencer.proofs.catalog.Catalog.test_steps.Given as goal

abbrev pub invariant-loop-index : goal.invariant-loop-index
invariant-loop-index l = steps_refusal l.self l.steps ≡ steps_refusal l.self (drop l.index l.steps)
