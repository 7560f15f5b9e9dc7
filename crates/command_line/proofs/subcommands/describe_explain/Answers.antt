use Rattle.std.proofs.Common.{ap, codes, ◌∙◌}
use Rattle.std.proofs.lemmas.Result.{IfOk-weaker}
use Rattle.clap.specs.Words.{App, with_rule}
use Rattle.command_line.specs.Shapes.{flag_rule, places_rule}
use Rattle.command_line.proofs.subcommands.describe_explain.Goals as goal

pub returns : goal.returns
returns c =
    let places = c.in_ok-explain-2.ensures ∙ ap (λ (a : App). with_rule a places_rule) c.in_ok-explain.ensures in
    IfOk-weaker c.with_explaining.result _ _
    (λ made is. is ∙ ap (λ (a : App). with_rule (with_rule a (flag_rule (codes "check"))) (flag_rule (codes "denied"))) places) c.with_explaining.ensures
