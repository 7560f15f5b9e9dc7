use Rattle.filling.proofs.Revokes.{revokes_if, revokes_only}
use Rattle.filling.proofs.ends.has_revocation.Goals as goal

pub returns-clause-yes : goal.returns-clause-yes
returns-clause-yes c = λ yes. revokes_if c.args.batch.now c.args.index c.statement.result.now c.statement.ensures.at (cc)

pub returns-clause-no : goal.returns-clause-no
returns-clause-no c = λ revokes. let there = revokes_only c.args.batch.now c.args.index c.statement.result.now c.statement.ensures.at revokes in cc
