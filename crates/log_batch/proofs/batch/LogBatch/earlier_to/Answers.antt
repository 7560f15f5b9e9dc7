use Rattle.std.proofs.Common.{List, ap, ◌∙◌, subst}
use Rattle.model_base.specs.declared.deed.Grant.{Grant}
use Rattle.model_base.specs.Records.{recorded}
use Rattle.grants_base.specs.Book.{Entries}
use Rattle.grants_base.specs.Index.{IsNext, is_to}
use Rattle.log_batch.specs.Earlier.{earlier_grants}
use Rattle.log_batch.specs.Referred.{is_found}
use Rattle.log_batch.specs.Supplied.{LogRange, batch_of, range_of}
use Rattle.log_batch.proofs.Earlier.{book-earlier}
use Rattle.log_batch.proofs.batch.LogBatch.earlier_to.Goals as goal

pub returns : goal.returns
returns c =
    let s = c.self.inside in
    let range = range_of record { log = s.log.now.log; first = s.first; size = s.size; partitions = s.partitions; placed = is_found s.references } in
    let same = ap (λ (entries : Entries). recorded entries.records) c.at-view.ensures.book ∙ book-earlier range s.before.book.now c.self.invariant.before.book.same in
    subst (λ (ranged : LogRange). IsNext (is_to c.args.holder.now.grantee c.args.holder.now.kind c.args.holder.now.table) (earlier_grants (batch_of ranged)) c.args.from c.next_to.result) c.self.view_is
    (subst (λ (grants : List Grant). IsNext (is_to c.args.holder.now.grantee c.args.holder.now.kind c.args.holder.now.table) grants c.args.from c.next_to.result) same c.next_to.ensures.next)
