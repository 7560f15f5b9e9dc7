use Rattle.log_batch.proofs.SerialEnded.{serial_ended_tells}
use Rattle.log_batch.proofs.laws.serial_ends_are_of_the_log.Goals as goal

pub returns : goal.returns
returns c range is index found within at = serial_ended_tells range is index within found at
