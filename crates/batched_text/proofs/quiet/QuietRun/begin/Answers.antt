use Rattle.std.proofs.Common.{refl}
use Rattle.batched_text.proofs.Faults.{read_on, told_on}
use Rattle.batched_text.proofs.quiet.QuietRun.begin.Goals as goal

pub returns-in_err-goes_on-clause-other : goal.returns-in_err-goes_on-clause-other
returns-in_err-goes_on-clause-other g c =
    λ other. c.in_err-goes_on.ensures.other
    (λ is. other (read_on c.in_err-goes_on.field-0.0 c.from_residual-in_err-goes_on.result c.from_residual-in_err-goes_on.ensures.1 _ refl is))

pub returns-in_err-goes_on-clause-fault : goal.returns-in_err-goes_on-clause-fault
returns-in_err-goes_on-clause-fault g c =
    rw (told_on c.in_err-goes_on.field-0.0 c.from_residual-in_err-goes_on.result c.from_residual-in_err-goes_on.ensures.1) c.in_err-goes_on.ensures.fault
