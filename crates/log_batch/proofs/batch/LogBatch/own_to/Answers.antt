use Rattle.std.proofs.Common.{List, subst}
use Rattle.model_base.specs.declared.deed.Grant.{Grant}
use Rattle.grants_base.specs.Index.{IsNext, is_to}
use Rattle.log_batch.specs.Earlier.{own_grants}
use Rattle.log_batch.specs.Referred.{is_found}
use Rattle.log_batch.specs.Supplied.{LogRange, batch_of, range_of}
use Rattle.log_batch.proofs.Earlier.{book-behind}
use Rattle.log_batch.proofs.batch.LogBatch.own_to.Goals as goal

pub returns-clause-next : goal.returns-clause-next
returns-clause-next c =
    let s = c.self.inside in
    let range = range_of record { log = s.log.now.log; first = s.first; size = s.size; partitions = s.partitions; placed = is_found s.references } in
    let same = book-behind range s.before.book.now c.self.invariant.before.book.same s.named c.self.invariant.slots in
    subst (λ (ranged : LogRange). IsNext (is_to c.args.holder.now.grantee c.args.holder.now.kind c.args.holder.now.table) (own_grants (batch_of ranged)) c.args.from c.next_to.result) c.self.view_is
    (subst (λ (grants : List Grant). IsNext (is_to c.args.holder.now.grantee c.args.holder.now.kind c.args.holder.now.table) grants c.args.from c.next_to.result) same c.next_to.ensures)
