-- What was written of a report, and what is pending of it.
use Rattle.std.proofs.Common.{◌≡◌, ℕ, List, [], ◌++◌, Option, Some, None, ap}
use Rattle.std.specs.Io.KnownBytes.{Appends, Keeps}
use Rattle.line_io.specs.Known.{AppendsFront, HasBegun}
use Rattle.line_io.proofs.Written.{appends_none, front_kept}
use Rattle.bohm_base.specs.Pending.{HasBegunReport, HasReport, WritesBegunReport, WritesReport}
use Rattle.bohm_base.proofs.Beginnings.{begun_then, begun_written, whole_written}
use Rattle.report.proofs.Readings.{IsTotal, some_report}

-- nothing was written
pub appends_nothing : (o : Option (List ℕ)) → Appends o o []
appends_nothing o = appends_none o []

-- a beginning of what was pending is written, and then pending
pub report_begun : (i o n m : Option (List ℕ)) (pending less : List ℕ) → HasBegunReport i o n pending → HasBegun n m less pending
    → HasBegunReport i o m less
report_begun None o n m pending less b a = tt
report_begun (Some xs) o n m pending less b a = (b.0, (b.1.0, begun_then o n m b.0 pending less b.1.1.0 b.1.1.1 a))

-- what was pending at the end is written, or a front of it
pub front_written : (i o n m : Option (List ℕ)) (pending : List ℕ)
    → HasBegunReport i o n pending → AppendsFront n m pending
    → WritesBegunReport i o m
front_written None o n m pending b a = tt
front_written (Some xs) o n m pending b a = (b.0, (b.1.0, begun_written o n m b.0 pending b.1.1 a))

pub all_written : (i o n m k : Option (List ℕ)) (pending : List ℕ)
    → HasReport i o n pending → Appends n m pending → Keeps m k
    → WritesReport i o k
all_written None o n m k pending b a e = tt
all_written (Some xs) o n m k pending b a e = (b.0, (b.1.0, whole_written o n m k b.0 pending b.1.1 a e))

-- before anything is read, nothing is written or pending
pub begun_start : IsTotal → (i o : Option (List ℕ)) (pending : List ℕ) → pending ≡ []
    → HasBegunReport i o o pending
begun_start total None o pending p = tt
begun_start total (Some xs) o pending p =
    let found = some_report total xs in
    (found.0, (found.1, (found.0, ([], appends_nothing o, ap (λ (w : List ℕ). w ++ found.0) p))))

pub front_kept_written : (i o n m k : Option (List ℕ)) (pending : List ℕ)
    → HasBegunReport i o n pending → AppendsFront n m pending → Keeps m k
    → WritesBegunReport i o k
front_kept_written i o n m k pending b a e = front_written i o n k pending b (front_kept n m k pending a e)
