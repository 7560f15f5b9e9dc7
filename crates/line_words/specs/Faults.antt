-- Words on faults.
use Rattle.std.specs.Prelude.{◌≡◌, Bool, if◌then◌else◌, Option, Some, None}
use Rattle.line_words.specs.declared.fault.LineFault.{LineFault}
use Rattle.line_words.specs.declared.fault.LineFault.TheVariants.{NoMemory}

-- the fault, where the test fails
abbrev pub unless : Bool → LineFault → Option LineFault
unless fits f = if fits then None else Some f

-- the first of two faults
abbrev pub or_else : Option LineFault → Option LineFault → Option LineFault
or_else None later = later
or_else (Some f) later = Some f

-- out of memory, or the fault that is there
abbrev pub IsFault : LineFault → Option LineFault → Type 0
IsFault NoMemory found = Unit {0}
IsFault f found = found ≡ Some f
