use Rattle.filling.proofs.running.done_outcome.Goals as goal

pub returns-in-Ok-Some-clause-tells : goal.returns-in-Ok-Some-clause-tells
returns-in-Ok-Some-clause-tells c =
    let answer = rw c.in-Ok-Some.is at c.outcome-pass.ensures.tells in
    (rw c.in-Ok-Some.field-0-is at answer).2
