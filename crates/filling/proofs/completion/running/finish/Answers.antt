use Rattle.std.proofs.Common.{sym, subst}
use Rattle.log_batch.specs.Supplied.{LogRange, batch_of}
use Rattle.words.specs.Closing.{HasItsReferences}
use Rattle.filling.specs.BatchProgress.{HasDone}
use Rattle.filling.proofs.Kept.{settled-done}
use Rattle.filling.proofs.completion.running.finish.Goals as goal

pub complete_all-requires-clause-closed : goal.complete_all-requires-clause-closed
complete_all-requires-clause-closed c =
    subst (λ (ranged : LogRange). HasDone (batch_of ranged) c.args.closed.now) (sym c.batch-batch.ensures)
    (settled-done (batch_of c.args.key.now.batch) c.args.key.now.slots c.args.closed.now c.requires.settled)

pub complete_all-requires-clause-references : goal.complete_all-requires-clause-references
complete_all-requires-clause-references c =
    subst (λ (ranged : LogRange). HasItsReferences (batch_of ranged) c.args.closed.now) (sym c.batch-batch.ensures) c.requires.references
