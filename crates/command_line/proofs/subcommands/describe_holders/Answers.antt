use Rattle.std.proofs.Common.{ap, codes, ◌∙◌}
use Rattle.std.proofs.lemmas.Result.{IfOk-weaker}
use Rattle.clap.specs.Words.{App, with_rule}
use Rattle.command_line.specs.Shapes.{limit_rule, required_rule}
use Rattle.command_line.proofs.subcommands.describe_holders.Goals as goal

pub returns : goal.returns
returns c =
    let words = c.in_ok-holders-2.ensures
    ∙ ap (λ (a : App). with_rule (with_rule a (required_rule (codes "KIND"))) (required_rule (codes "TABLE"))) c.in_ok-holders.ensures in
    IfOk-weaker c.with_holders_limit.result _ _ (λ made is. is ∙ ap (λ (a : App). with_rule a limit_rule) words) c.with_holders_limit.ensures
