use Rattle.words.specs.Passes.{IsPassOf}
use Rattle.thread_trials.proofs.steps.print_turns.Given as goal

abbrev pub invariant-loop-step : goal.invariant-loop-step
invariant-loop-step g l = IsPassOf l.batch l.last × g.P.BatchPlacer.is_of l.batch l.first × g.P.BatchPlacer.is_of l.batch l.second
