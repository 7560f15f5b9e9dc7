use Rattle.std.proofs.Common.{◌≡◌, ◌≤◌, ◌∙◌, Some, ap, arith, false, inl, inr, length}
use Rattle.std.proofs.lemmas.Result.{IfOk-weaker}
use Rattle.engine.specs.Engine.{Run}
use Rattle.audit_text.proofs.RunSofar.{answered_sofar, missing}
use Rattle.audit_text.proofs.places.answer_next.Goals as goal

pub returns-clause-answer : goal.returns-clause-answer
returns-clause-answer g c =
    IfOk-weaker c.answer_to.result _ _
    (λ text told input all are so.
    answered_sofar input _ c.reach.new.self all c.args.question text.items c.in_ok-reach.ensures.between.whole (c.in_ok-reach.ensures.of (Some input) so) are told)
    (rw c.engine.ensures at c.answer_to.ensures.answer)

pub returns-clause-none : goal.returns-clause-none
returns-clause-none g c = λ places is input so.
    let run = c.reach.new.self in
    let told = c.answer_to.ensures.none places is in
    let all : places ≡ length run.engine.log.statements = told.0 ∙ ap (λ (r : Run). length r.log.statements) c.engine.ensures in
    let ended : run.goes_on ≡ false =
    elim c.in_ok-reach.ensures.reached [ inl there ↦ absurd (omega (arith, there, all, told.1, c.in_ok-reach.ensures.between.all)) | inr ended ↦ ended ] in
    let within : c.args.question.place ≤ run.last = omega (arith, c.requires.last, c.reach.ensures.last) in
    missing input _ run c.args.question.place places (c.in_ok-reach.ensures.of (Some input) so) ended all told.1 within
