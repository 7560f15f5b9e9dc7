use Rattle.std.proofs.Common.{◌≡◌, ◌∙◌, subst, true}
use Rattle.grants_base.specs.Force.{gives_to, is_in_force}
use Rattle.grants_base.specs.InForce.{ShowsNextInForce}
use Rattle.grants_base.specs.View.{View, slot_at}
use Rattle.grants.proofs.ByIndex.{held_by, known}
use Rattle.grants.proofs.holding.standing_by.Goals as goal

pub returns-in-Some-clause-value : goal.returns-in-Some-clause-value
returns-in-Some-clause-value g c =
    c.standing_of_next.ensures
    ∙ known c.args.grantee.now c.args.user c.args.need.now c.requires (g.V.Records.shown c.args.view.now) c.in-Some.next c.in-Some.ensures.next

pub returns-then-has_in_force-clause-value : goal.returns-then-has_in_force-clause-value
returns-then-has_in_force-clause-value g c =
    let held = c.has_in_force.ensures.some c.if-has_in_force.true in
    held_by c.args.grantee.now c.args.user c.args.need.now c.requires (g.V.Records.shown c.args.view.now) held.0
    (subst (λ (view : View). is_in_force (gives_to c.args.grantee.now c.args.need.now.kind c.args.need.now.table c.args.need.now.option) (slot_at view held.0) ≡ true) c.kept_in_force.ensures.same held.1)

pub returns-in-Some-next_in_force-clause-value : goal.returns-in-Some-next_in_force-clause-value
returns-in-Some-next_in_force-clause-value g c =
    let need = c.args.need.now in
    let next = subst (λ (view : View). ShowsNextInForce (gives_to c.args.grantee.now need.kind need.table need.option) view 0 c.in-Some-next_in_force.next) (c.has_in_force.ensures.same ∙ c.kept_in_force.ensures.same) c.in-Some-next_in_force.ensures.next in
    c.standing_of_next-in-Some-next_in_force.ensures ∙ known c.args.grantee.now c.args.user need c.requires (g.V.Records.shown c.args.view.now) c.in-Some-next_in_force.next next
