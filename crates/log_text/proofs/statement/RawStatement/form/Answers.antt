use Rattle.std.proofs.Common.{subst}
use Rattle.log_text.specs.Statement.{IsInGrammar}
use Rattle.log_text.proofs.statement.RawStatement.form.Goals as goal

pub returns-clause-grammar : goal.returns-clause-grammar
returns-clause-grammar c = subst IsInGrammar c.self.view_is c.self.invariant
