-- From the counts that were written to the text that was read.
use Rattle.std.proofs.Common.{◌≡◌, ◌<◌, ◌⊎◌, ◌∙◌, ℕ, List, Option, Some, None, arith, inl, inr}
use Rattle.std.specs.Prelude.{◌-◌, ◌^◌, IfSome, OnOk, Result, Ok, Err, refl}
use Rattle.std.specs.Io.KnownBytes.{Appends}
use Rattle.line_io.specs.Known.{AppendsFront, raised}
use Rattle.report.specs.Report.{IsReport}
use Rattle.audit_text.specs.Texts.{BeginsText, WritesText}
use Rattle.summary.specs.Summary.{IsSummary}
use Rattle.summary.specs.Tallied.{AreCountsOf}
use Rattle.summary.specs.Texts.{counts_text}
use Rattle.summary.specs.declared.counts.Counts.{Counts}

-- the counts of a report are its summary
one-summary : (bytes report : List ℕ) (counts : Counts) → IsReport bytes report → AreCountsOf report counts → IsSummary bytes (counts_text counts)
one-summary bytes report counts is are = record { report = report; reported = is; counts = counts; counted = are; told = refl }

written : (input : Option (List ℕ)) (old new : Option (List ℕ)) (report : List ℕ) (counts : Counts)
    → IfSome input (λ bytes. IsReport bytes report) → AreCountsOf report counts → Appends old new (counts_text counts)
    → WritesText IsSummary input old new
written None old new report counts is are put = tt
written (Some bytes) old new report counts is are put = (counts_text counts, (one-summary bytes report counts is are, put))

pub all-written : {A F : Type 0} (input : Option (List ℕ)) (old new : Option (List ℕ)) (report : List ℕ) (counts : Counts) (result : Result A F)
    → IfSome input (λ bytes. IsReport bytes report) → AreCountsOf report counts → OnOk result (Appends old new (counts_text counts))
    → OnOk result (WritesText IsSummary input old new)
all-written input old new report counts (Ok x) is are put = written input old new report counts is are put
all-written input old new report counts (Err e) is are put = tt

pub begun-written : (input : Option (List ℕ)) (old new : Option (List ℕ)) (report : List ℕ) (counts : Counts)
    → IfSome input (λ bytes. IsReport bytes report) → AreCountsOf report counts
    → (new ≡ old) ⊎ AppendsFront old new (counts_text counts) → BeginsText IsSummary input old new
begun-written None old new report counts is are put = tt
begun-written (Some bytes) old new report counts is are (inl same) = inl same
begun-written (Some bytes) old new report counts is are (inr front) = inr (counts_text counts, (one-summary bytes report counts is are, front))

-- nothing was written
pub none-begun : (input : Option (List ℕ)) (old : Option (List ℕ)) → BeginsText IsSummary input old old
none-begun None old = tt
none-begun (Some bytes) old = inl refl

-- it is greater, unless it is at its end
pub rises : (errors now : ℕ) → now ≡ raised errors → errors < 2 ^ 64 - 1 → errors < now
rises errors now is room = omega (arith, is, room)
