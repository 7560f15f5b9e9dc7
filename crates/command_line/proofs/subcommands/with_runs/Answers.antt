use Rattle.std.proofs.Common.{ap, codes, ◌∙◌}
use Rattle.std.proofs.lemmas.Result.{IfOk-weaker}
use Rattle.clap.specs.Words.{App, app_of, with_subcommand}
use Rattle.command_line.specs.Shapes.{over_file, run_app, with_progress}
use Rattle.command_line.proofs.subcommands.with_runs.Goals as goal

-- the command with one more subcommand
abbrev with_one : App → App → App
with_one app subcommand = with_subcommand app (with_progress subcommand).top

pub returns : goal.returns
returns c =
    let start = app_of c.args.program in
    let run = c.in_ok-program.ensures ∙ ap (λ (a : App). with_one start a) c.in_ok-run.ensures in
    let serial = c.in_ok-program-2.ensures
    ∙ ap (λ (a : App). with_one a (app_of c.in_ok-serial.serial)) run
    ∙ ap (λ (a : App). with_one (with_one start run_app) a) c.in_ok-serial.ensures in
    IfOk-weaker c.with_subcommand-3.result _ _
    (λ made is. is
    ∙ ap (λ (a : App). with_one a (app_of c.in_ok-summary.summary)) serial
    ∙ ap (λ (a : App). with_one (with_one (with_one start run_app) (over_file (codes "serial"))) a) c.in_ok-summary.ensures)
    c.with_subcommand-3.ensures
