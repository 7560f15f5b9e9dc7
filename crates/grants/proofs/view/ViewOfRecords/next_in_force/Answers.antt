use Rattle.std.proofs.Common.{List, subst}
use Rattle.std.specs.Prelude.{IfSome}
use Rattle.model_base.specs.declared.deed.Record.{Record}
use Rattle.grants_base.specs.Force.{gives_to}
use Rattle.grants_base.specs.InForce.{IsNextInForce}
use Rattle.grants.proofs.ByIndex.{shows_found}
use Rattle.grants.proofs.view.ViewOfRecords.next_in_force.Goals as goal

pub returns-in-Some-clause-next : goal.returns-in-Some-clause-next
returns-in-Some-clause-next g c =
    let passes = gives_to c.args.holder.grantee c.args.holder.kind c.args.holder.table c.args.option in
    shows_found (g.B.RecordBook.contents c.args.self.now.book.now) c.args.self.now.place c.in-Some.ensures.1 passes c.args.from c.next_in_force.result
    (subst (λ (entries : List Record). IfSome c.next_in_force.result (λ next. IsNextInForce passes entries c.args.from next)) c.in-Some.ensures.0
    c.next_in_force.ensures)
