use Rattle.std.proofs.Common.{ap, ◌∙◌}
use Rattle.std.proofs.lemmas.Result.{IfOk-weaker}
use Rattle.clap.specs.Words.{App, app_of, with_subcommand}
use Rattle.command_line.specs.Shapes.{holders_app, with_progress}
use Rattle.command_line.proofs.subcommands.with_privileges.Goals as goal

pub returns : goal.returns
returns c =
    let holders = c.in_ok-program.ensures ∙ ap (λ (a : App). with_subcommand (app_of c.args.program) (with_progress a).top) c.in_ok-holders.ensures in
    IfOk-weaker c.with_subcommand-2.result _ _
    (λ made is. is
    ∙ ap (λ (a : App). with_subcommand a (with_progress (app_of c.in_ok-history.history)).top) holders
    ∙ ap (λ (a : App). with_subcommand (with_subcommand (app_of c.args.program) (with_progress holders_app).top) (with_progress a).top) c.in_ok-history.ensures)
    c.with_subcommand-2.ensures
