use Rattle.std.proofs.Common.{◌++◌, ◌∷◌, [], List, ap, refl, ◌∙◌}
use Rattle.model_base.specs.declared.statement.Statement.{Statement}
use Rattle.sequencer.specs.Catalog.{numbered}
use Rattle.sequencer.proofs.WholeLogs.{kept_after}
use Rattle.sequencer.proofs.log.Log.push.Goals as goal

pub invariant_of-self-2 : goal.invariant_of-self-2
invariant_of-self-2 c =
    let taken = c.in_ok-admit.ensures in
    let one : Statement = numbered c.self.inside.catalog c.args.statement.now in
    kept_after (record { names = c.self.inside.catalog; statements = c.self.inside.statements.items }) _ c.args.statement.now one c.self.invariant
    taken.passes taken.names refl
    (taken.ok ∙ ap (λ (ss : List Statement). ss ++ one ∷ []) c.reserve.ensures.items)
    taken.taken taken.filled
