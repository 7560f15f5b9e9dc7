use Rattle.std.proofs.Common.{◌≡◌, length, subst}
use Rattle.bohm_core_base.specs.Batch.{reference_words}
use Rattle.log_batch.specs.Supplied.{batch_of}
use Rattle.filling.specs.Keys.{Key}
use Rattle.filling.proofs.key.RangeKeyBatchData.references_length.Goals as goal

pub returns-clause-value : goal.returns-clause-value
returns-clause-value c =
    subst (λ (k : Key). c.references_length.result ≡ length (reference_words (batch_of k.batch) c.args.index)) c.self.view_is
    c.references_length.ensures.value
