use Rattle.std.proofs.Common.{◌∙◌}
use Rattle.clap.specs.Words.{found_of}
use Rattle.command_line.proofs.Numbers.{among_none, among_some}
use Rattle.command_line.proofs.options.number_of.Goals as goal

pub returns-in-Some-clause-told : goal.returns-in-Some-clause-told
returns-in-Some-clause-told c =
    c.number_within.ensures.told
    ∙ among_some (found_of c.args.found.now) c.args.option.now.name.now c.args.option.now.least c.args.option.now.most c.in-Some.text.now c.in-Some.ensures

pub returns-in-None-clause-told : goal.returns-in-None-clause-told
returns-in-None-clause-told c =
    among_none (found_of c.args.found.now) c.args.option.now.name.now c.args.option.now.least c.args.option.now.most c.in-None.ensures
