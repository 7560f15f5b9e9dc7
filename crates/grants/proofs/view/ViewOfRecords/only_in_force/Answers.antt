use Rattle.std.proofs.Common.{false, List, subst}
use Rattle.std.specs.Prelude.{IfSome, slice_get}
use Rattle.model_base.specs.declared.deed.Record.{Record}
use Rattle.grants_base.specs.Force.{gives_to, is_in_force}
use Rattle.grants_base.specs.Index.{IsOnly}
use Rattle.grants.proofs.ByIndex.{shows_one}
use Rattle.grants.proofs.view.ViewOfRecords.only_in_force.Goals as goal

pub returns-in-Some-clause-only : goal.returns-in-Some-clause-only
returns-in-Some-clause-only g c =
    let passes = gives_to c.args.holder.grantee c.args.holder.kind c.args.holder.table false in
    shows_one (g.B.RecordBook.contents c.args.self.now.book.now) c.args.self.now.place c.in-Some.ensures.1 passes c.only_in_force.result
    (subst (λ (entries : List Record). IfSome c.only_in_force.result (IsOnly (λ k. is_in_force passes (slice_get entries k)))) c.in-Some.ensures.0
    c.only_in_force.ensures)
