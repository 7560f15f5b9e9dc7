use Rattle.std.proofs.Common.{ap, ◌∙◌}
use Rattle.sequencer.specs.Names.{number_of, with_name}
use Rattle.sequencer.proofs.Parties.{only_entered}
use Rattle.sequencer.proofs.names.NameTable.enter_grantees.Goals as goal

pub returns-clause-grantees : goal.returns-clause-grantees
returns-clause-grantees c =
    let old = c.args.self.now in
    let text = c.as_str.ensures.text in
    c.of.ensures
    ∙ only_entered old c.enter.new.self c.args.grantees.now c.in-Some.name _ c.in-Some.ensures
    (c.in_ok-number.ensures.entered ∙ ap (with_name old) text)
    (c.in_ok-number.ensures.number ∙ ap (number_of old) text)
