use Rattle.std.proofs.Common.{ℕ, subst}
use Rattle.std.specs.Prelude.{IfSome}
use Rattle.grants_base.specs.Book.{Entries, view_of}
use Rattle.grants_base.specs.Force.{gives_to}
use Rattle.grants_base.specs.InForce.{IsNextInForce, ShowsNextInForce}
use Rattle.log_batch.specs.Earlier.{records_before}
use Rattle.log_batch.specs.Supplied.{LogRange, batch_of}
use Rattle.log_batch.proofs.AtStart.{next-at-start}
use Rattle.log_batch.proofs.batch.LogBatch.earlier_in_force.Goals as goal

pub returns : goal.returns
returns c =
    let s = c.self.inside in
    let passes = gives_to c.args.holder.grantee c.args.holder.kind c.args.holder.table c.args.option in
    let Told : Entries → ℕ → Type 0 = λ (book : Entries). λ (place : ℕ). IfSome c.next_in_force.result (λ next. ShowsNextInForce passes (view_of book place) c.args.from next) in
    let book = subst (λ (book : Entries). Told book c.at-view.result.place) c.at-view.ensures.book c.next_in_force.ensures.next in
    let place = subst (λ (place : ℕ). Told s.before.book.now place) c.at-view.ensures.place book in
    subst (λ (ranged : LogRange). IfSome c.next_in_force.result (λ next. IsNextInForce passes (records_before (batch_of ranged)) c.args.from next)) c.self.view_is
    (next-at-start s.before.book.now s.log.now.log.statements s.first c.self.invariant.before.book.same passes c.args.from c.next_in_force.result place)
