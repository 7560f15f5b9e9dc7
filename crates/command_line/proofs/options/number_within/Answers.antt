use Rattle.command_line.proofs.Numbers.{read_none, read_within}
use Rattle.command_line.proofs.options.number_within.Goals as goal

pub returns-in-Ok-clause-told : goal.returns-in-Ok-clause-told
returns-in-Ok-clause-told c =
    read_within c.args.least c.args.most c.args.text.now c.in-Ok.number c.in-Ok.ensures.value.0 c.if-least-number.true c.if-number-most.true

pub returns-in_default-3-clause-told : goal.returns-in_default-3-clause-told
returns-in_default-3-clause-told c = read_none _ c.args.least c.args.most c.args.text.now c.in_default.field-0 c.in_default.ensures.value.0
