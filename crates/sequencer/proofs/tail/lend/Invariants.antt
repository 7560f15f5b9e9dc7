use Rattle.std.proofs.Common.{length}
use Rattle.sequencer.proofs.tail.lend.Given as goal

abbrev pub invariant-dropped : goal.invariant-dropped
invariant-dropped l = Unit {0}

abbrev pub decreases-dropped : goal.decreases-dropped
decreases-dropped l = length l.spare.items
