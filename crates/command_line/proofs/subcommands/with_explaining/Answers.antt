use Rattle.std.proofs.Common.{ap, codes, ◌∙◌}
use Rattle.std.proofs.lemmas.Result.{IfOk-weaker}
use Rattle.clap.specs.Words.{App, with_rule}
use Rattle.command_line.specs.Shapes.{flag_rule}
use Rattle.command_line.proofs.subcommands.with_explaining.Goals as goal

pub returns : goal.returns
returns c =
    IfOk-weaker c.with_flag-2.result _ _
    (λ made is. is ∙ ap (λ (a : App). with_rule a (flag_rule (codes "denied"))) c.in_ok-command.ensures) c.with_flag-2.ensures
