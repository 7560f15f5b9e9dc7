use Rattle.std.proofs.Common.{rules}
use Rattle.audit_text.proofs.graph.is_in_force_at.Goals as goal

pub returns-then-entry-place : goal.returns-then-entry-place
returns-then-entry-place c = search rules
