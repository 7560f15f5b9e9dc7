-- Nor does it matter how many threads read it.
use denote.RattleType.{RattleType}
use denote.Param.Send.{IsSync}
use Rattle.sequencer.specs.contracts.past.Past.{the_row}
use Rattle.sequencer.proofs.Sent.{past_sync}

pub sync : (T : RattleType) → IsSync T → IsSync (the_row T)
sync T t = past_sync T
