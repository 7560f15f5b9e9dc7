use Rattle.std.proofs.Common.{subst}
use Rattle.std.specs.Prelude.{IfOk, Vec}
use Rattle.std.specs.declared.alloc.Global.{Global}
use Rattle.std.proofs.lemmas.Result.{IfOk-weaker}
use Rattle.model_base.specs.Outcomes.{rows_before}
use Rattle.chains.specs.RowsThere.{AreRowsThere}
use Rattle.chains.specs.Store.{rows_at_end}
use Rattle.chains.specs.declared.listing.RowThere.{RowThere}
use Rattle.engine.specs.Engine.{Run, finished}
use Rattle.engine.proofs.RowsThere.{rows-of-log}
use Rattle.engine.proofs.run.Engine.rows_there.Goals as goal

abbrev Found : Type 0
Found = Vec RowThere Global

pub returns : goal.returns
returns c =
    let e = c.self.inside in
    let stands = c.self.invariant.is.stands in
    subst (λ (run : Run). IfOk c.rows_there.result (λ (found : Found). AreRowsThere (rows_before run.log.statements (finished run)) found.items))
    c.self.view_is
    (IfOk-weaker c.rows_there.result (λ (found : Found). AreRowsThere (rows_at_end e.state.chains) found.items) _
    (λ found are. rows-of-log e.log.log.statements e.state.chains _ found.items stands.right stands.ends c.mark-mark.ensures.within are)
    c.rows_there.ensures)
