use Rattle.std.proofs.Common.{List, subst}
use Rattle.std.specs.Prelude.{IfSome, slice_get}
use Rattle.model_base.specs.declared.deed.Record.{Record}
use Rattle.grants_base.specs.Force.{gives_by, is_in_force}
use Rattle.grants_base.specs.Index.{IsFirst}
use Rattle.grants.proofs.ByIndex.{shows_by}
use Rattle.grants.proofs.view.ViewOfRecords.next_in_force_by.Goals as goal

pub returns-in-Some-clause-next : goal.returns-in-Some-clause-next
returns-in-Some-clause-next g c =
    let passes = gives_by c.args.user c.args.holder.grantee c.args.holder.kind c.args.holder.table in
    shows_by (g.B.RecordBook.contents c.args.self.now.book.now) c.args.self.now.place c.in-Some.ensures.1 passes c.args.from c.next_in_force_by.result
    (subst (λ (entries : List Record). IfSome c.next_in_force_by.result (λ next. IsFirst (λ k. is_in_force passes (slice_get entries k)) c.args.from next.slot)) c.in-Some.ensures.0
    c.next_in_force_by.ensures)
