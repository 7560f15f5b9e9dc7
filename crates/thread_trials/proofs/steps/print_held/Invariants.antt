use Rattle.std.proofs.Common.{◌≡◌, [], ◌∷◌}
use Rattle.bohm_core_base.specs.declared.event.Event.TheVariants.{Claim}
use Rattle.words.specs.Passes.{IsPassOf}
use Rattle.thread_trials.proofs.steps.print_held.Given as goal

abbrev pub invariant-loop-step : goal.invariant-loop-step
invariant-loop-step g l = IsPassOf l.batch l.last × IsPassOf l.batch l.holding × (l.holding.view.events ≡ Claim l.holding.number l.index ∷ [])
