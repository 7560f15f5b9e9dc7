use Rattle.std.proofs.Common.{ap, ◌∙◌}
use Rattle.clap.specs.Words.{found_of}
use Rattle.clap.proofs.WalkLemmas.{first_value-rows}
use Rattle.command_line.specs.Options.{choice_within}
use Rattle.command_line.proofs.options.choice_of.Goals as goal

pub returns-clause-choice : goal.returns-clause-choice
returns-clause-choice c =
    c.choice_within.ensures.choice
    ∙ ap (choice_within c.args.option.now.least c.args.option.now.most) (c.get_str-word.ensures ∙ first_value-rows (found_of c.args.found.now) c.args.option.now.name.now)
