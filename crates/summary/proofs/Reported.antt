-- A report that a count was given whole.
use Rattle.std.proofs.Common.{◌≡◌, ◌++◌, ◌∙◌, ℕ, List, [], Option, Some, None, ap, subst, sym}
use Rattle.std.specs.Prelude.{IfSome}
use Rattle.bohm_base.specs.Pending.{WritesReport}
use Rattle.report.specs.Report.{IsReport}

-- what was given since the beginning is the report
pub given-report : (input : Option (List ℕ)) (start end : List ℕ) → start ≡ [] → WritesReport input (Some start) (Some end)
    → IfSome input (λ bytes. IsReport bytes end)
given-report None start end is told = tt
given-report (Some bytes) start end is (text, (report, appends)) =
    let same : text ≡ end = sym (appends ∙ ap (λ (s : List ℕ). s ++ text) is) in
    let P : List ℕ → Type 0 = λ t. IsReport bytes t in
    subst P same report
