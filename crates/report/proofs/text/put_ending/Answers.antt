use Rattle.std.proofs.Common.{◌++◌, List, ℕ, ap, ◌∙◌, append_assoc}
use Rattle.std.specs.Prelude.{codes}
use Rattle.std.specs.Fmt.{decimal}
use Rattle.report.proofs.Spelled.{then_on}
use Rattle.report.proofs.text.put_ending.Goals as goal

pub returns-in_ok-extend_from_slice-in-Undeclared : goal.returns-in_ok-extend_from_slice-in-Undeclared
returns-in_ok-extend_from_slice-in-Undeclared c =
    let number : List ℕ = decimal c.in-Undeclared.step in
    then_on c.put_decimal.result c.put_decimal.ensures.ok
    (λ is log are.
    rw c.in-Undeclared.is
    (is
    ∙ ap (λ (text : List ℕ). text ++ number) c.in_ok-extend_from_slice-in-Undeclared.ensures.items
    ∙ append_assoc c.args.text.now.items (codes " undeclared ") number))
