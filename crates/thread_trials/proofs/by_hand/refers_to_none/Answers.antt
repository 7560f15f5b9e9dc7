use Rattle.std.proofs.Common.{arith}
use Rattle.bohm_core_base.specs.Batch.{reference_words}
use Rattle.thread_trials.proofs.Stored.{none-refer}
use Rattle.thread_trials.proofs.by_hand.refers_to_none.Goals as goal

pub returns : goal.returns
returns g c is =
    none-refer (reference_words (g.K.BatchData.batch c.args.key.now) c.args.index)
    (λ number less. c.loop-number.invariant number (omega (arith, less, c.references_length-number-end.ensures.value, c.loop-number-test.false)))
