use Rattle.std.proofs.Common.{◌++◌, List, ℕ, ap, sym, ◌∙◌}
use Rattle.report.proofs.Spelled.{in_two, then_on}
use Rattle.report.proofs.text.put_records.Goals as goal

pub returns-in-Two : goal.returns-in-Two
returns-in-Two c =
    then_on c.put_spelled.result (rw c.users.ensures at c.put_spelled.ensures)
    (λ is log are.
    is ∙ ap (λ (text : List ℕ). c.args.text.now.items ++ text)
    (in_two log c.args.catalog.now c.args.names.now c.args.grantees.now (sym c.version.ensures ∙ c.in-Two.is) are))
