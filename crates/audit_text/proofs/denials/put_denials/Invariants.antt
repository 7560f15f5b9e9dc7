use Rattle.audit_text.proofs.Several.{PutsTo}
use Rattle.audit_text.proofs.denials.put_denials.Given as goal

abbrev pub invariant-loop-place : goal.invariant-loop-place
invariant-loop-place l = PutsTo l.engine.log l.is_checked l.first l.place l.initial.text.items l.text.items
