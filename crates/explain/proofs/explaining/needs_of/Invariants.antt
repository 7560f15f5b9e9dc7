use Rattle.std.proofs.Common.{◌≡◌, ◌++◌, ◌-◌, drop, length}
use Rattle.model_base.specs.Outcomes.{needs}
use Rattle.explain.proofs.explaining.needs_of.Given as goal

-- the needs so far, and those that are left, are all
abbrev pub invariant-loop-need : goal.invariant-loop-need
invariant-loop-need l = l.found.items ++ drop (length l.found.items) (needs l.form) ≡ needs l.form

abbrev pub decreases-loop-need : goal.decreases-loop-need
decreases-loop-need l = length (needs l.form) - length l.found.items
