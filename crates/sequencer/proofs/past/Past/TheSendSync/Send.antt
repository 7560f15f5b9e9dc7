-- A past owns nothing, so it may go to another thread.
use denote.RattleType.{RattleType}
use denote.Param.Send.{IsSend}
use Rattle.sequencer.specs.contracts.past.Past.{the_row}
use Rattle.sequencer.proofs.Sent.{past_send}

pub send : (T : RattleType) → IsSend T → IsSend (the_row T)
send T t = past_send T
