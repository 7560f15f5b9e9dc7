-- A past has no bytes and owns nothing: any thread may have it, and any may share it.
use denote.RattleType.{RattleType}
use denote.Param.Send.{IsSend, IsSync, part_keyless}
use Rattle.sequencer.specs.contracts.past.Past.{the_row}

pub past_send : (T : RattleType) → IsSend (the_row T)
past_send T = record { owned = λ d vs. ((λ vss. (tt, ((λ uss. (tt, tt)), tt))), tt); leaving = λ k f vs. tt }

pub past_sync : (T : RattleType) → IsSync (the_row T)
past_sync T = record { shared = λ d b o κ q. part_keyless (the_row T) (past_send T) q d b o }
