use Rattle.model_base.proofs.Ends.{end-exactly}
use Rattle.model_base.proofs.record_laws.ends_are_losses.Goals as goal

pub returns : goal.returns
returns c = end-exactly
