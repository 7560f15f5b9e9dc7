use Rattle.std.proofs.Common.{ap, codes, ◌∙◌}
use Rattle.std.proofs.lemmas.Result.{IfOk-weaker}
use Rattle.clap.specs.Words.{App, new_rule, with_rule}
use Rattle.command_line.specs.Shapes.{required_rule}
use Rattle.command_line.proofs.subcommands.describe_history.Goals as goal

pub returns : goal.returns
returns c =
    let user = c.in_ok-history-2.ensures ∙ ap (λ (a : App). with_rule a (required_rule (codes "USER"))) c.in_ok-history.ensures in
    let words = c.in_ok-history-3.ensures
    ∙ ap (λ (a : App). with_rule (with_rule a (required_rule (codes "KIND"))) (required_rule (codes "TABLE"))) user in
    IfOk-weaker c.with_option.result _ _ (λ made is. is ∙ ap (λ (a : App). with_rule a (new_rule (codes "OPTION"))) words) c.with_option.ensures
