-- What was written after what a writer held, and what is pending.
use Rattle.std.specs.Prelude.{ℕ, Option, List, IfSome, OnOk, Result}
use Rattle.std.specs.Io.KnownBytes.{Appends}
use Rattle.line_io.specs.Known.{AppendsFront, HasBegun, MovesOut}
use Rattle.report.specs.Report.{IsReport}

-- after what the writer held comes the report of the input, the end of it still pending
abbrev pub HasReport : Option (List ℕ) → Option (List ℕ) → Option (List ℕ) → List ℕ → Type 0
HasReport input old now pending =
    IfSome input (λ bytes. (text : List ℕ) × (IsReport bytes text × MovesOut old now text pending))

-- after what the writer held comes a beginning of the report of the input, the end of it still pending
abbrev pub HasBegunReport : Option (List ℕ) → Option (List ℕ) → Option (List ℕ) → List ℕ → Type 0
HasBegunReport input old now pending =
    IfSome input (λ bytes. (text : List ℕ) × (IsReport bytes text × HasBegun old now pending text))

-- after what the writer held comes the report of the input, and nothing else
abbrev pub WritesReport : Option (List ℕ) → Option (List ℕ) → Option (List ℕ) → Type 0
WritesReport input old now = IfSome input (λ bytes. (text : List ℕ) × (IsReport bytes text × Appends old now text))

-- after what the writer held comes a beginning of the report of the input, and nothing else
abbrev pub WritesBegunReport : Option (List ℕ) → Option (List ℕ) → Option (List ℕ) → Type 0
WritesBegunReport input old now = IfSome input (λ bytes. (text : List ℕ) × (IsReport bytes text × AppendsFront old now text))

-- of a run by its result: after what the writer held comes a beginning of the report of the input, and nothing else; where the run
-- succeeded it is the report
abbrev pub ReportsInput : {A F : Type 0} → Option (List ℕ) → Option (List ℕ) → Option (List ℕ) → Result A F → Type 0
ReportsInput input old now result = OnOk result (WritesReport input old now) × WritesBegunReport input old now
