use Rattle.std.proofs.Common.{◌≡◌, ℤ, List, Option, subst}
use Rattle.std.specs.Prelude.{IfOk}
use Rattle.std.proofs.lemmas.Result.{IfOk-weaker}
use Rattle.model_base.specs.declared.statement.Statement.{Statement}
use Rattle.model_base.specs.Outcomes.{rows_before}
use Rattle.chains.specs.Store.{IsRight}
use Rattle.engine.specs.Engine.{Run}
use Rattle.engine.proofs.run.Engine.row_before.Goals as goal

pub returns-clause-value : goal.returns-clause-value
returns-clause-value c =
    let e = c.self.inside in
    subst (λ (run : Run). IfOk c.row_before.result (λ (row : Option (List ℤ)). row ≡ rows_before run.log.statements c.args.place c.args.key.table c.args.key.row)) c.self.view_is
    (IfOk-weaker c.row_before.result
    (λ (row : Option (List ℤ)). (log : List Statement) → IsRight log e.state.chains → row ≡ rows_before log c.args.place c.args.key.table c.args.key.row)
    (λ (row : Option (List ℤ)). row ≡ rows_before e.log.log.statements c.args.place c.args.key.table c.args.key.row)
    (λ row right. right e.log.log.statements c.self.invariant.is.stands.right)
    c.row_before.ensures.right)
