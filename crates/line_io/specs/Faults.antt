-- Which faults reading ends with, and what each fault says.
use Rattle.std.specs.Prelude.{◌≡◌, ◌⊎◌, ℕ, List, codes}
use Rattle.line_io.specs.declared.fault.EngineFault.{EngineFault}

-- a fault of reading
abbrev pub IsOfReading : EngineFault → Type 0
IsOfReading fault = (fault ≡ EngineFault.NoMemory) ⊎ (fault ≡ EngineFault.Read)

-- what a fault says to a reader
abbrev pub engine_fault_text : EngineFault → List ℕ
engine_fault_text EngineFault.NoMemory = codes "out of memory"
engine_fault_text EngineFault.Read = codes "cannot read"
engine_fault_text EngineFault.Write = codes "cannot write"
engine_fault_text EngineFault.BadSettings = codes "bad settings"
engine_fault_text EngineFault.Spawn = codes "cannot start a worker"
