-- What the result of a run says of the failures of its reader and its writer.
use Rattle.std.specs.Prelude.{◌≡◌, ◌<◌, ◌-◌, ◌^◌, Err, OnOk, Result, true}
use Rattle.line_io.specs.Known.{raised}
use Rattle.line_io.specs.declared.counted.Counted.{Counted}

-- The fault that says that the reader failed, and the one that says that the writer did, come only where they failed. Where the run succeeded,
-- neither of them failed, and the writer was flushed once at the end and not written to since.
abbrev pub CountsFailures : {A F R W : Type 0} → F → F → Counted R → Counted R → Counted W → Counted W → Result A F → Type 0
CountsFailures read write reader read_on writer written result =
    ((result ≡ Err read → reader.errors < 2 ^ 64 - 1 → reader.errors < read_on.errors)
    × (result ≡ Err write → writer.errors < 2 ^ 64 - 1 → writer.errors < written.errors))
    × (OnOk result ((read_on.errors ≡ reader.errors) × (written.errors ≡ writer.errors))
    × OnOk result ((written.flushes ≡ raised writer.flushes) × (written.is_flushed ≡ true)))
