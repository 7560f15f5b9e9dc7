-- The status of a call, and its English.
use Rattle.std.specs.Prelude.{◌≡◌, ◌==◌, ◌⊎◌, ℤ, ℕ, Result, Ok, Err, List, codes, if◌then◌else◌, pos, negsuc}
use Rattle.explain.specs.declared.fault.ExplainFault.{ExplainFault}
use Rattle.fed_run.specs.declared.fault.AskFault.{AskFault}
use Rattle.fed_run.specs.declared.fault.FeedFault.{FeedFault}

abbrev pub status_number : Result (Unit {0}) FeedFault → ℤ
status_number (Ok done) = pos 0
status_number (Err FeedFault.NoMemory) = pos 1
status_number (Err FeedFault.Full) = pos 2
status_number (Err FeedFault.Ended) = pos 5

-- of a call on an open handle
abbrev pub IsStatus : ℤ → Type 0
IsStatus status = (done : Result (Unit {0}) FeedFault) × (status ≡ status_number done)

-- of one that sets an option: done, or the log has begun; and for no other option but that of what is kept
abbrev pub IsSetStatus : ℕ → ℤ → Type 0
IsSetStatus option status = (option ≡ 1 → (status ≡ pos 0) ⊎ (status ≡ pos 6)) × ((option ≡ 1 → ⊥) → status ≡ pos 7)

-- of why there is no explanation
abbrev pub explain_status : ExplainFault → ℤ
explain_status ExplainFault.NoMemory = pos 1
explain_status ExplainFault.NoSuchPlace = pos 8
explain_status ExplainFault.NotFinished = pos 8
explain_status ExplainFault.Forgotten = pos 9

-- of one that explains: done, out of memory, no such place, forgotten, or too little room
abbrev pub IsExplainStatus : ℤ → Type 0
IsExplainStatus status = (status ≡ pos 0) ⊎ (status ≡ pos 1) ⊎ (status ≡ pos 8) ⊎ (status ≡ pos 9) ⊎ (status ≡ pos 10)

-- of why it isn't said what is there
abbrev pub ask_status : AskFault → ℤ
ask_status AskFault.NoMemory = pos 1
ask_status AskFault.NoSuchTable = pos 11
ask_status AskFault.Waiting = pos 12

-- of one that says what is there: done, out of memory, too little room, no such table, or lines that wait
abbrev pub IsAskStatus : ℤ → Type 0
IsAskStatus status = (status ≡ pos 0) ⊎ (status ≡ pos 1) ⊎ (status ≡ pos 10) ⊎ (status ≡ pos 11) ⊎ (status ≡ pos 12)

-- of one that says who holds a privilege: one of these, or no kind
abbrev pub IsHoldersStatus : ℤ → Type 0
IsHoldersStatus status = IsAskStatus status ⊎ (status ≡ pos 13)

-- of one that isn't negative
abbrev pub known_text : ℕ → List ℕ
known_text status =
    if status == 0 then codes "done" else
    if status == 1 then codes "out of memory" else
    if status == 2 then codes "too many lines" else
    if status == 3 then codes "the handle is closed" else
    if status == 4 then codes "the handle is open already" else
    if status == 5 then codes "the log has ended" else
    if status == 6 then codes "the log has begun" else
    if status == 7 then codes "no such option" else
    if status == 8 then codes "no such place" else
    if status == 9 then codes "the statement is not kept" else
    if status == 10 then codes "too little room" else
    if status == 11 then codes "no such table" else
    if status == 12 then codes "lines wait to be run" else
    if status == 13 then codes "no such kind" else
    codes "no such status"

abbrev pub status_text : ℤ → List ℕ
status_text (pos status) = known_text status
status_text (negsuc n) = codes "no such status"
