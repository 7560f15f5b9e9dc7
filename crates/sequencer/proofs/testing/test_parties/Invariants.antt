use Rattle.std.proofs.Common.{length}
use Rattle.sequencer.proofs.Tested.{AreTested}
use Rattle.sequencer.proofs.testing.test_parties.Given as goal

abbrev pub invariant-grantees : goal.invariant-grantees
invariant-grantees l = AreTested l.users l.user l.grantees l.left l.count

abbrev pub decreases-grantees : goal.decreases-grantees
decreases-grantees l = length l.left
