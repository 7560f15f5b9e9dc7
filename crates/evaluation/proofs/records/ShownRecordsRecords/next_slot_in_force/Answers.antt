use Rattle.std.proofs.Common.{subst}
use Rattle.std.specs.Prelude.{IfSome}
use Rattle.grants_base.specs.InForce.{ShowsNextSlot}
use Rattle.evaluation.specs.Seen.{shown_to}
use Rattle.evaluation.specs.Sought.{is_sought}
use Rattle.evaluation.specs.declared.in_force.Sought.{Sought}
use Rattle.evaluation.proofs.records.ShownRecordsRecords.next_slot_in_force.Goals as goal

pub returns-clause-next : goal.returns-clause-next
returns-clause-next g c =
    let self = c.args.self.now in
    let view = shown_to self.batch.now (g.T.ReadSource.as_reader self.source) in
    subst (λ (sought : Sought). IfSome c.next_shown.result (λ next. ShowsNextSlot (is_sought sought) view c.args.from next)) c.giving-sought.ensures c.next_shown.ensures.next
