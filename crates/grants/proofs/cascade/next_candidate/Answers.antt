use Rattle.std.proofs.Common.{true, subst}
use Rattle.grants_base.specs.Index.{AreAsked}
use Rattle.grants_base.specs.View.{View}
use Rattle.grants.proofs.Candidates.{candidate_by_index, candidate_by_slots}
use Rattle.grants.proofs.cascade.next_candidate.Goals as goal

pub returns-in-Some-clause-next : goal.returns-in-Some-clause-next
returns-in-Some-clause-next g c =
    candidate_by_index (g.V.Records.shown c.args.view.now) c.args.revocation.now c.args.grantee.now c.args.kind true c.args.from c.in-Some.next.slot c.in-Some.ensures.next

pub returns-in-None-clause-next : goal.returns-in-None-clause-next
returns-in-None-clause-next g c =
    let asked = g.V.Records.asked c.next_slot_in_force.new.self in
    candidate_by_slots (g.V.Records.shown c.args.view.now) c.args.revocation.now c.args.grantee.now c.args.kind true c.args.from asked
    (subst (λ (v : View). AreAsked v asked) c.next_slot_in_force.ensures.same c.next_to.ensures.asked) c.next_to.result c.next_to.ensures.next
