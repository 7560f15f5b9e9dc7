-- What a run's answer says of its reader, its writer and its fault.
use Rattle.std.specs.Prelude.{◌≢◌, ℕ, Result, Ok, Err}
use Rattle.line_io.specs.Known.{raised}
use Rattle.line_io.specs.declared.fault.EngineFault.{EngineFault}

-- a fault of a run in order, which has no settings that could be bad and starts no worker
abbrev pub IsFaultInOrder : EngineFault → Type 0
IsFaultInOrder fault = (fault ≢ EngineFault.BadSettings) × (fault ≢ EngineFault.Spawn)

-- the count of the reader's failures after an answer
abbrev pub read_errors : {A : Type 0} → Result A EngineFault → ℕ → ℕ
read_errors (Ok answer) errors = errors
read_errors (Err EngineFault.NoMemory) errors = errors
read_errors (Err EngineFault.Read) errors = raised errors
read_errors (Err EngineFault.Write) errors = errors
read_errors (Err EngineFault.BadSettings) errors = errors
read_errors (Err EngineFault.Spawn) errors = errors

-- the count of the writer's failures after an answer
abbrev pub write_errors : {A : Type 0} → Result A EngineFault → ℕ → ℕ
write_errors (Ok answer) errors = errors
write_errors (Err EngineFault.NoMemory) errors = errors
write_errors (Err EngineFault.Read) errors = errors
write_errors (Err EngineFault.Write) errors = raised errors
write_errors (Err EngineFault.BadSettings) errors = errors
write_errors (Err EngineFault.Spawn) errors = errors
