use Rattle.std.proofs.Common.{◌++◌, ◌∷◌, [], List, ap, refl, ◌∙◌}
use Rattle.log_text.specs.LineBuffers.{sentence_of}
use Rattle.model_base.specs.declared.statement.Statement.{Statement}
use Rattle.sequencer.specs.Catalog.{numbered}
use Rattle.sequencer.proofs.WholeLogs.{kept_after}
use Rattle.sequencer.proofs.log.Log.push_run.Goals as goal

pub invariant_of-self-2 : goal.invariant_of-self-2
invariant_of-self-2 c =
    let taken = c.in_ok-admit_read.ensures in
    let one : Statement = numbered c.self.inside.catalog (sentence_of c.args.read.now) in
    kept_after (record { names = c.self.inside.catalog; statements = c.self.inside.statements.items }) _ (sentence_of c.args.read.now) one c.self.invariant
    taken.passes taken.names refl
    (taken.ok ∙ ap (λ (ss : List Statement). ss ++ one ∷ []) c.reserve.ensures.items)
    taken.taken taken.filled
