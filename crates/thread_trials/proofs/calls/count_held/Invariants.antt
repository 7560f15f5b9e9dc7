use Rattle.words.specs.Passes.{IsPassOf}
use Rattle.thread_trials.proofs.calls.count_held.Given as goal

abbrev pub invariant-loop-index : goal.invariant-loop-index
invariant-loop-index g l = IsPassOf l.batch l.holding
