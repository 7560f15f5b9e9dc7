use Rattle.std.proofs.Common.{arith}
use Rattle.engine.specs.Engine.{finished}
use Rattle.audit_text.proofs.putting.put_found.Goals as goal

pub put_explained-requires-clause-granted : goal.put_explained-requires-clause-granted
put_explained-requires-clause-granted c =
    let run = c.args.engine.now in
    λ _. c.explanations_name_earlier_grants.ensures.later run.log.statements c.args.question.place (finished run) c.in_ok-found.found.lines.items
    c.in_ok-found.ensures.lines (omega (arith, c.requires.within))
