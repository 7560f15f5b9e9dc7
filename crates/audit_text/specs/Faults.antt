-- The faults of an answer, and what is said of faults.
use Rattle.std.specs.Prelude.{◌≢◌, ◌++◌, ℕ, zero, suc, List, codes}
use Rattle.std.specs.Fmt.{decimal}
use Rattle.line_io.specs.Faults.{engine_fault_text}
use Rattle.line_io.specs.declared.fault.EngineFault.{EngineFault}
use Rattle.audit_text.specs.declared.fault.WorkFault.{WorkFault}

-- a fault of an answer that is asked of a user, which has no settings that could be bad and starts no thread
abbrev pub IsOfUser : WorkFault → Type 0
IsOfUser fault = (fault ≢ WorkFault.Run EngineFault.BadSettings) × (fault ≢ WorkFault.Run EngineFault.Spawn)

-- and one of an answer that is asked of no user
abbrev pub IsOfAnswer : WorkFault → Type 0
IsOfAnswer fault = IsOfUser fault × (fault ≢ WorkFault.NoSuchUser)

-- and one of an answer that is asked of no table
abbrev pub IsOfPlace : WorkFault → Type 0
IsOfPlace fault = IsOfAnswer fault × (fault ≢ WorkFault.NoSuchTable)

-- which places a log has that has so many
abbrev pub range_text : ℕ → List ℕ
range_text zero = codes "no places"
range_text (suc last) = codes "places 0 to " ++ decimal last

-- and where it ends
abbrev pub extent_text : ℕ → List ℕ
extent_text places = range_text places ++ codes ", and ends at " ++ decimal places

-- what a fault says to a reader; of a missing place it tells which places there are, and where the log ends
abbrev pub work_fault_text : WorkFault → List ℕ
work_fault_text (WorkFault.Run fault) = engine_fault_text fault
work_fault_text (WorkFault.NoSuchPlace places) = codes "no such place: the log has " ++ extent_text places
work_fault_text WorkFault.NoSuchTable = codes "no such table"
work_fault_text WorkFault.NoSuchUser = codes "no such user"
