use Rattle.std.proofs.Common.{sym, ◌∙◌}
use Rattle.grants_base.specs.Force.{gives_to, is_in_force}
use Rattle.grants_base.specs.View.{slot_at}
use Rattle.grants.proofs.ByIndex.{one_found}
use Rattle.grants.proofs.holding.has_in_force.Goals as goal

pub returns-in-Some-clause-some : goal.returns-in-Some-clause-some
returns-in-Some-clause-some g c found =
    one_found (λ k. is_in_force (gives_to c.args.holder.now.grantee c.args.holder.now.kind c.args.holder.now.table c.args.option) (slot_at (g.V.Records.shown c.args.view.now) k)) 0
    c.in-Some.next.slot c.in-Some.ensures.next (sym c.is_some.ensures ∙ found)
