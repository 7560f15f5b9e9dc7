use Rattle.std.proofs.Common.{ap, codes, ◌∙◌}
use Rattle.std.proofs.lemmas.Result.{IfOk-weaker}
use Rattle.clap.specs.Words.{App, with_rule}
use Rattle.command_line.specs.Shapes.{flag_rule}
use Rattle.command_line.proofs.subcommands.with_progress.Goals as goal

pub returns : goal.returns
returns c =
    let one = c.in_ok-command.ensures in
    IfOk-weaker c.with_flag-2.result _ _
    (λ made is. is ∙ ap (λ (a : App). with_rule a (flag_rule (codes "no-progress"))) one) c.with_flag-2.ensures
