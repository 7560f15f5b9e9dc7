-- What the result of a run says after a fault.
use Rattle.std.proofs.Common.{◌≡◌, ◌<◌, ◌-◌, ◌^◌, ℕ, List, Option}
use Rattle.std.specs.Prelude.{Result, Ok, Err, IsErrAnd}
use Rattle.line_io.specs.Failures.{CountsFailures}
use Rattle.line_io.specs.declared.counted.Counted.{Counted}
use Rattle.bohm_base.specs.Pending.{ReportsInput, WritesBegunReport}

-- a beginning of the report is written
pub fault_reports : {A F : Type 0} (P : F → Type 0) (i o n : Option (List ℕ)) (result : Result A F) → IsErrAnd result P → WritesBegunReport i o n
    → ReportsInput i o n result
fault_reports P i o n (Ok value) is begun = absurd is
fault_reports P i o n (Err fault) is begun = (tt, begun)

-- a failure of the reader or the writer is counted
pub fault_counts : {A F R W : Type 0} (P : F → Type 0) (read write : F) (reader read_on : Counted R) (writer written : Counted W) (result : Result A F)
    → IsErrAnd result P
    → (result ≡ Err read → reader.errors < 2 ^ 64 - 1 → reader.errors < read_on.errors)
    → (result ≡ Err write → writer.errors < 2 ^ 64 - 1 → writer.errors < written.errors)
    → CountsFailures read write reader read_on writer written result
fault_counts P read write reader read_on writer written (Ok value) is reads writes = absurd is
fault_counts P read write reader read_on writer written (Err fault) is reads writes = ((reads, writes), (tt, tt))
