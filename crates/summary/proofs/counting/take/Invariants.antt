use Rattle.std.proofs.Common.{◌≡◌, ◌++◌, ℕ, List, length}
use Rattle.summary.specs.Tallied.{IsTallied}
use Rattle.summary.proofs.counting.take.Given as goal

-- what was done so far, and what is left
abbrev pub invariant-loop-feed : goal.invariant-loop-feed
invariant-loop-feed l =
    (done : List ℕ) × ((done ++ l.left ≡ l.bytes)
    × ((text : List ℕ) → IsTallied text l.initial.counts l.initial.head.items → IsTallied (text ++ done) l.counts l.head.items))

abbrev pub decreases-loop-feed : goal.decreases-loop-feed
decreases-loop-feed l = length l.left
