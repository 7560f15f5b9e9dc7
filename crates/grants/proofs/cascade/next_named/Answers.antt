use Rattle.std.proofs.Common.{subst}
use Rattle.grants_base.specs.Index.{AreAsked}
use Rattle.grants_base.specs.View.{View}
use Rattle.grants.proofs.Named.{named_by_index, named_by_slots}
use Rattle.grants.proofs.cascade.next_named.Goals as goal

pub returns-in-Some-clause-next : goal.returns-in-Some-clause-next
returns-in-Some-clause-next g c =
    named_by_index (g.V.Records.shown c.args.view.now) c.args.revocation.now c.args.grantee.now c.args.kind c.args.from c.in-Some.next.slot c.in-Some.ensures.next

pub returns-in-None-clause-next : goal.returns-in-None-clause-next
returns-in-None-clause-next g c =
    let asked = g.V.Records.asked c.next_in_force_by.new.self in
    named_by_slots (g.V.Records.shown c.args.view.now) c.args.revocation.now c.args.grantee.now c.args.kind c.args.from asked
    (subst (λ (v : View). AreAsked v asked) c.next_in_force_by.ensures.same c.next_to.ensures.asked) c.next_to.result c.next_to.ensures.next
