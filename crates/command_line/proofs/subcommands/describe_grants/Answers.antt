use Rattle.std.proofs.Common.{ap, codes, ◌∙◌}
use Rattle.std.proofs.lemmas.Result.{IfOk-weaker}
use Rattle.clap.specs.Words.{App, new_rule, with_rule}
use Rattle.command_line.specs.Shapes.{place_rule}
use Rattle.command_line.proofs.subcommands.describe_grants.Goals as goal

pub returns : goal.returns
returns c =
    IfOk-weaker c.with_limit.result _ _
    (λ made is. is ∙ ap (λ (a : App). with_rule a (place_rule (new_rule (codes "PLACE")))) c.in_ok-grants.ensures) c.with_limit.ensures
