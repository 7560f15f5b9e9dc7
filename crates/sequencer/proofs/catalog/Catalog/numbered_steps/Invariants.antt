use Rattle.std.proofs.Common.{◌≡◌, ◌≤◌, ◌++◌, map, length, drop}
use Rattle.std.specs.Vec.{vec_capacity}
use Rattle.sequencer.specs.Catalog.{numbered_step}
use Rattle.sequencer.specs.Refusal.{steps_refusal}
use Rattle.sequencer.proofs.catalog.Catalog.numbered_steps.Given as goal

abbrev pub invariant-loop-step : goal.invariant-loop-step
invariant-loop-step l = record {
  found : l.found.items ++ map (numbered_step l.self) (drop l.step-index l.steps) ≡ map (numbered_step l.self) l.steps;
  refusal : steps_refusal l.self l.steps ≡ steps_refusal l.self (drop l.step-index l.steps);
  later : l.later ≡ length (drop l.step-index l.steps);
  room : length l.steps ≤ vec_capacity l.found;
}
