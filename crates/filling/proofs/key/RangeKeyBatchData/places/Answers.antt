use Rattle.std.proofs.Common.{subst}
use Rattle.bohm_core_base.specs.Batch.{IsSoundBatch}
use Rattle.log_batch.specs.Supplied.{batch_of, range_of}
use Rattle.filling.specs.Keys.{Key}
use Rattle.filling.proofs.key.RangeKeyBatchData.places.Goals as goal

pub returns-clause-sound : goal.returns-clause-sound
returns-clause-sound c =
    let key = c.self.inside in
    subst (λ (value : Key). IsSoundBatch (batch_of value.batch)) c.self.view_is
    (c.batches_of_logs_are_sound.ensures (range_of key.batch) c.log-log.ensures.of_log)
