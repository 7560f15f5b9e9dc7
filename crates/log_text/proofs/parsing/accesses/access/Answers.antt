use Rattle.log_text.proofs.AccessFit.{access_fits}
use Rattle.log_text.proofs.parsing.accesses.access.Goals as goal

pub returns-in-Some-clause-ok : goal.returns-in-Some-clause-ok
returns-in-Some-clause-ok c = (c.in-Some.ensures.0, c.in-Some.ensures.1, access_fits c.in-Some.access c.in-Some.ensures.1)
