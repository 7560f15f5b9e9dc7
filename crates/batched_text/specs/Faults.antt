-- What a fault says of the reader, the writer, the settings and the threads.
use Rattle.std.specs.Prelude.{◌≡◌, ◌≢◌, ◌⊎◌, ◌<◌, ℕ}
use Rattle.line_io.specs.declared.fault.EngineFault.{EngineFault}

-- neither the reader nor the writer failed: memory ran out, or a thread for one of several workers could not be started
abbrev pub IsOfBatch : ℕ → EngineFault → Type 0
IsOfBatch workers fault = (fault ≡ EngineFault.NoMemory) ⊎ ((fault ≡ EngineFault.Spawn) × (1 < workers))

-- the settings are within their limits, and a thread that could not be started was one for several workers
abbrev pub IsOfRun : ℕ → EngineFault → Type 0
IsOfRun workers fault = (fault ≢ EngineFault.BadSettings) × (fault ≡ EngineFault.Spawn → 1 < workers)
