use Rattle.std.proofs.Common.{ℕ, subst}
use Rattle.std.specs.Prelude.{IfSome, slice_get}
use Rattle.grants_base.specs.Book.{Entries, view_of}
use Rattle.grants_base.specs.Force.{gives_by, is_in_force}
use Rattle.grants_base.specs.Index.{IsFirst}
use Rattle.grants_base.specs.View.{slot_at}
use Rattle.log_batch.specs.Earlier.{records_before}
use Rattle.log_batch.specs.Supplied.{LogRange, batch_of}
use Rattle.log_batch.proofs.AtStart.{by-at-start}
use Rattle.log_batch.proofs.batch.LogBatch.earlier_in_force_by.Goals as goal

pub returns : goal.returns
returns c =
    let s = c.self.inside in
    let passes = gives_by c.args.user c.args.holder.grantee c.args.holder.kind c.args.holder.table in
    let Told : Entries → ℕ → Type 0 = λ (book : Entries). λ (place : ℕ). IfSome c.next_in_force_by.result (λ next. IsFirst (λ k. is_in_force passes (slot_at (view_of book place) k)) c.args.from next.slot) in
    let book = subst (λ (book : Entries). Told book c.at-view.result.place) c.at-view.ensures.book c.next_in_force_by.ensures.next in
    let place = subst (λ (place : ℕ). Told s.before.book.now place) c.at-view.ensures.place book in
    subst (λ (ranged : LogRange). IfSome c.next_in_force_by.result (λ next. IsFirst (λ k. is_in_force passes (slice_get (records_before (batch_of ranged)) k)) c.args.from next.slot)) c.self.view_is
    (by-at-start s.before.book.now s.log.now.log.statements s.first c.self.invariant.before.book.same passes c.args.from c.next_in_force_by.result place)
