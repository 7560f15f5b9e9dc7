use Rattle.std.proofs.Common.{ap, codes, ◌∙◌}
use Rattle.std.proofs.lemmas.Result.{IfOk-weaker}
use Rattle.clap.specs.Words.{App, new_rule, with_rule}
use Rattle.command_line.specs.Shapes.{limit_rule}
use Rattle.command_line.proofs.subcommands.describe_rows.Goals as goal

pub returns : goal.returns
returns c =
    let table = c.in_ok-rows-2.ensures ∙ ap (λ (a : App). with_rule a (new_rule (codes "TABLE"))) c.in_ok-rows.ensures in
    IfOk-weaker c.with_rows_limit.result _ _ (λ made is. is ∙ ap (λ (a : App). with_rule a limit_rule) table) c.with_rows_limit.ensures
