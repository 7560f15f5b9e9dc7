-- Why a run takes no more, or doesn't say what is there, in words.
use Rattle.std.specs.Prelude.{ℕ, List, codes}
use Rattle.audit_text.specs.declared.fault.WorkFault.{WorkFault}
use Rattle.fed_run.specs.declared.fault.AskFault.{AskFault}
use Rattle.fed_run.specs.declared.fault.FeedFault.{FeedFault}

-- what a fault says to a reader
abbrev pub feed_fault_text : FeedFault → List ℕ
feed_fault_text FeedFault.NoMemory = codes "out of memory"
feed_fault_text FeedFault.Full = codes "too many lines"
feed_fault_text FeedFault.Ended = codes "the log has ended"

abbrev pub ask_fault_text : AskFault → List ℕ
ask_fault_text AskFault.NoMemory = codes "out of memory"
ask_fault_text AskFault.NoSuchTable = codes "no such table"
ask_fault_text AskFault.Waiting = codes "lines wait to be run"

-- what a fault of an answer is to who asks what is there
abbrev pub ask_fault_of : WorkFault → AskFault
ask_fault_of WorkFault.NoSuchTable = AskFault.NoSuchTable
ask_fault_of other = AskFault.NoMemory
