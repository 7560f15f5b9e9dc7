use Rattle.std.proofs.Common.{rules, ap₂, codes, ◌∙◌, ◌≡◌}
use Rattle.std.proofs.lemmas.Result.{IfOk-weaker}
use Rattle.clap.specs.Words.{app_of, new_app, rule_of, with_rule}
use Rattle.command_line.specs.Shapes.{required_rule}
use Rattle.command_line.proofs.subcommands.over_file.Goals as goal

pub returns : goal.returns
returns c =
    let file : rule_of c.help-file.result ≡ required_rule (codes "FILE") = search rules in
    let start : app_of c.about.result ≡ new_app c.args.name.now = search rules in
    IfOk-weaker c.arg.result _ _ (λ made adds. adds.shape (search rules) ∙ ap₂ with_rule start file) c.arg.ensures
