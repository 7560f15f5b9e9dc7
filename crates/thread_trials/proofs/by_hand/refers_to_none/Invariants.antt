use Rattle.std.proofs.Common.{◌≡◌, ◌<◌, ℕ}
use Rattle.words.specs.Layout.{reference_at}
use Rattle.thread_trials.proofs.by_hand.refers_to_none.Given as goal

abbrev pub invariant-loop-number : goal.invariant-loop-number
invariant-loop-number g l = (number : ℕ) → number < l.number → reference_at (g.K.BatchData.batch l.key) l.index number ≡ 0
