use Rattle.std.proofs.Common.{rules, ap, ap₂, codes, ◌∙◌, ◌≡◌}
use Rattle.std.proofs.lemmas.Result.{IfOk-weaker}
use Rattle.clap.specs.Words.{App, app_of, new_app, new_rule, rule_of, with_rule}
use Rattle.command_line.specs.Options.{with_options}
use Rattle.command_line.specs.Shapes.{flag_rule}
use Rattle.command_line.proofs.subcommands.describe_run.Goals as goal

pub returns : goal.returns
returns c =
    let file : rule_of c.help-file.result ≡ new_rule (codes "FILE") = search rules in
    let run : app_of c.about.result ≡ new_app (codes "run") = search rules in
    let start : app_of c.in_ok-run.run' ≡ with_rule (new_app (codes "run")) (new_rule (codes "FILE")) =
    c.in_ok-run.ensures.shape (search rules) ∙ ap₂ with_rule run file in
    let options = c.in_ok-run-2.ensures ∙ ap with_options start in
    IfOk-weaker c.with_summary.result _ _
    (λ made is. is ∙ ap (λ (a : App). with_rule a (flag_rule (codes "summary"))) options) c.with_summary.ensures
