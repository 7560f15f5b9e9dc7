use Rattle.std.proofs.Common.{rules}
use Rattle.audit_text.proofs.graph.put_option.Goals as goal

pub returns-then-option : goal.returns-then-option
returns-then-option c = search rules
