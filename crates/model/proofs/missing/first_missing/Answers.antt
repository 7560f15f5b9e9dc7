use Rattle.std.proofs.Common.{◌≡◌, Bool, not, ◌∷◌, sym, ap, ◌∙◌}
use Rattle.std.specs.List.{find}
use Rattle.model_base.specs.declared.deed.Need.{Need}
use Rattle.model_base.specs.Privileges.{has}
use Rattle.model.proofs.Finding.{find-here, find-later}
use Rattle.model.proofs.missing.first_missing.Goals as goal

pub returns-then-is_some : goal.returns-then-is_some
returns-then-is_some c =
    let p : Need → Bool = λ need. not (has c.args.owners.now c.args.grants.now c.args.user need) in
    let split : c.needs.needs ≡ c.in-Some.need ∷ c.next.new.self = c.in-Some.ensures in
    find-here p c.in-Some.need c.next.new.self c.missing_need-missing.result c.missing_need-missing.ensures (sym c.is_some.ensures ∙ c.if-is_some.true)
    ∙ ap (find p) (sym split) ∙ c.needs.invariant ∙ ap (find p) c.of-needs.ensures

pub needs-preserved : goal.needs-preserved
needs-preserved c =
    let p : Need → Bool = λ need. not (has c.args.owners.now c.args.grants.now c.args.user need) in
    let split : c.needs.needs ≡ c.in-Some.need ∷ c.next.new.self = c.in-Some.ensures in
    find-later p c.in-Some.need c.next.new.self c.missing_need-missing.result c.missing_need-missing.ensures (sym c.is_some.ensures ∙ c.if-is_some.false)
    ∙ ap (find p) (sym split) ∙ c.needs.invariant
