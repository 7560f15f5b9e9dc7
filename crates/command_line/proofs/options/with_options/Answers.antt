use Rattle.std.proofs.Common.{[], ◌∷◌, ap, ◌∙◌, codes}
use Rattle.std.proofs.lemmas.Result.{IfOk-weaker}
use Rattle.clap.specs.Words.{App, with_rule}
use Rattle.command_line.specs.Options.{number_rule}
use Rattle.command_line.proofs.options.with_options.Goals as goal

pub returns : goal.returns
returns c =
    let one = c.in_ok-run.ensures in
    let two = c.in_ok-run-2.ensures ∙ ap (λ (a : App). with_rule a (number_rule (codes "partitions") 1 64 [])) one in
    let three = c.in_ok-run-3.ensures ∙ ap (λ (a : App). with_rule a (number_rule (codes "batch") 1 65536 (codes "1024" ∷ []))) two in
    let four = c.in_ok-run-4.ensures ∙ ap (λ (a : App). with_rule a (number_rule (codes "keep") 0 65535 (codes "1" ∷ []))) three in
    IfOk-weaker c.with_number-3.result _ _
    (λ made is. is ∙ ap (λ (a : App). with_rule a (number_rule (codes "ahead") 0 63 [])) four) c.with_number-3.ensures
