use Rattle.std.proofs.Common.{◌<◌, subst}
use Rattle.bohm_core_base.specs.Batch.{IsSoundBatch}
use Rattle.log_batch.specs.Supplied.{batch_of}
use Rattle.filling.specs.Readings.{PlaceReading, reader_in}
use Rattle.filling.proofs.reader.PassReaderReadSource.reader.Goals as goal

pub returns-clause-within : goal.returns-clause-within
returns-clause-within g c = subst (λ (reading : PlaceReading). c.self.inside.index < (reader_in reading).batch.size) c.self.view_is c.self.invariant.reads.within

pub returns-clause-sound : goal.returns-clause-sound
returns-clause-sound g c = subst (λ (reading : PlaceReading). IsSoundBatch (batch_of reading.ranged)) c.self.view_is c.places-places.ensures.sound
