use Rattle.std.proofs.Common.{sym, subst}
use Rattle.std.specs.Prelude.{IfSome, slice_get}
use Rattle.grants_base.specs.Force.{is_in_force}
use Rattle.grants_base.specs.Index.{IsFirst}
use Rattle.log_batch.specs.Earlier.{records_before}
use Rattle.log_batch.specs.Supplied.{batch_of}
use Rattle.log_batch.specs.Reach.{has_party}
use Rattle.log_batch.specs.declared.reach.Party.{Party}
use Rattle.log_batch.proofs.reach.next_in_force.Goals as goal

pub returns-in-Between : goal.returns-in-Between
returns-in-Between c =
    let entries = records_before (batch_of c.args.batch.now) in
    subst (λ (party : Party). IfSome c.earlier_in_force_by.result (λ next. IsFirst (λ k. is_in_force (has_party party) (slice_get entries k)) c.args.from next.slot))
    (sym c.in-Between.is) c.earlier_in_force_by.ensures
