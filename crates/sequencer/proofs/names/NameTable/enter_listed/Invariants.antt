use Rattle.std.proofs.Common.{length}
use Rattle.sequencer.proofs.Parties.{AreEntered}
use Rattle.sequencer.proofs.names.NameTable.enter_listed.Given as goal

abbrev pub invariant-grantees : goal.invariant-grantees
invariant-grantees l = AreEntered l.initial.self l.self l.grantees l.initial.left l.left l.found

abbrev pub decreases-grantees : goal.decreases-grantees
decreases-grantees l = length l.left
