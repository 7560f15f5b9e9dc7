use Rattle.std.proofs.Common.{Some, ap}
use Rattle.sequencer.proofs.catalog.Catalog.enter_users.Goals as goal

pub returns-in_ok-user-in-Some-clause-deed : goal.returns-in_ok-user-in-Some-clause-deed
returns-in_ok-user-in-Some-clause-deed c = rw c.in-Some.is (ap Some c.in_ok-user-in-Some.ensures.deed)
