use Rattle.std.proofs.Common.{ap, ◌∙◌}
use Rattle.std.proofs.lemmas.Result.{IfOk-weaker}
use Rattle.clap.specs.Words.{App, app_of, with_subcommand}
use Rattle.command_line.proofs.Telling.{plain_is_local}
use Rattle.command_line.proofs.subcommands.with_subcommand.Goals as goal

pub returns : goal.returns
returns c =
    let is = c.in_ok-subcommand.ensures in
    IfOk-weaker c.subcommand.result _ _
    (λ made adds. adds.shape (plain_is_local c.in_ok-subcommand.subcommand (ap (λ (a : App). a.top.is_plain) is ∙ c.requires))
    ∙ ap (λ (a : App). with_subcommand (app_of c.args.program) a.top) is)
    c.subcommand.ensures
