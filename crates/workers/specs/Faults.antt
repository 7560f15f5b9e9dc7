-- Why the run of a batch may fail.
use Rattle.std.specs.Prelude.{◌≡◌, ◌⊎◌, Result, Ok, Err}
use Rattle.line_io.specs.declared.fault.EngineFault.{EngineFault}

-- out of memory, or a worker's thread that could not be started
abbrev pub IsRunFault : EngineFault → Type 0
IsRunFault fault = (fault ≡ EngineFault.NoMemory) ⊎ (fault ≡ EngineFault.Spawn)

-- the outcome of workers that were started and worked so
abbrev pub run_outcome : {S : Type 0} → Result (Unit {0}) S → Result (Unit {0}) S → Result (Unit {0}) EngineFault
run_outcome (Err _) worked = Err EngineFault.Spawn
run_outcome (Ok _) (Err _) = Err EngineFault.NoMemory
run_outcome (Ok end) (Ok _) = Ok end
