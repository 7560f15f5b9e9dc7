use Rattle.std.proofs.Common.{subst}
use Rattle.log_text.specs.Statement.{IsInGrammar}
use Rattle.log_text.proofs.statement.RawStatement.user.Goals as goal

pub returns-clause-grammar : goal.returns-clause-grammar
returns-clause-grammar c = subst IsInGrammar c.before.self.view_is c.before.self.invariant
