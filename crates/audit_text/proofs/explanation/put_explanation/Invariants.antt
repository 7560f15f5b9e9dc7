use Rattle.std.proofs.Common.{◌≡◌, ◌++◌, take}
use Rattle.engine.specs.Engine.{finished}
use Rattle.audit_text.specs.Explanation.{LinesMayBeSpelled, explanation_text}
use Rattle.audit_text.proofs.explanation.put_explanation.Given as goal

-- so far, where the records of all lines may be spelled
abbrev pub invariant-loop-line : goal.invariant-loop-line
invariant-loop-line l =
    LinesMayBeSpelled l.engine.log (finished l.engine) l.line-items
    → l.text.items ≡ l.initial.text.items ++ explanation_text l.engine.log.statements l.engine.log.names (take l.line-index l.line-items)
