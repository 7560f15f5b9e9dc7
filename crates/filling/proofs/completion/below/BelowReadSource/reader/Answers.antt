use Rattle.std.proofs.Common.{subst}
use Rattle.bohm_core_base.specs.Batch.{IsSoundBatch}
use Rattle.log_batch.specs.Supplied.{batch_of}
use Rattle.log_batch.proofs.Counted.{sound_batch}
use Rattle.evaluation.specs.ReadSource.{RangePlace}
use Rattle.filling.proofs.completion.below.BelowReadSource.reader.Goals as goal

pub returns-clause-sound : goal.returns-clause-sound
returns-clause-sound c =
    subst (λ (place : RangePlace). IsSoundBatch (batch_of place.ranged)) c.self.view_is (sound_batch c.self.inside.batch.now c.self.invariant.2)
