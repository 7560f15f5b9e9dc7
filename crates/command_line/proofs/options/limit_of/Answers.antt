use Rattle.std.proofs.Common.{Some, ap, codes, ◌∙◌}
use Rattle.std.specs.Prelude.{option_map}
use Rattle.clap.specs.Words.{found_of}
use Rattle.clap.proofs.WalkLemmas.{first_value-rows}
use Rattle.command_line.specs.Options.{choice_within, limit_by}
use Rattle.command_line.specs.declared.options.Limit.{Limit}
use Rattle.command_line.proofs.options.limit_of.Goals as goal

pub returns-in-Some : goal.returns-in-Some
returns-in-Some c =
    let word = c.get_str-word.ensures ∙ first_value-rows (found_of c.args.found.now) (codes "PLACE") in
    let choice = c.in-Some.ensures.choice ∙ ap (choice_within 0 c.args.most) word in
    ap (λ (limit : Limit). Some limit) c.limit_by.ensures ∙ ap (option_map limit_by) choice

pub returns-in-None : goal.returns-in-None
returns-in-None c =
    let word = c.get_str-word.ensures ∙ first_value-rows (found_of c.args.found.now) (codes "PLACE") in
    ap (option_map limit_by) (c.in-None.ensures.choice ∙ ap (choice_within 0 c.args.most) word)
