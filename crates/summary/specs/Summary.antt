-- The summary of the text of a log.
use Rattle.std.specs.Prelude.{◌≡◌, List, ℕ}
use Rattle.bohm_base.specs.Faults.{IsFaultInOrder}
use Rattle.audit_text.specs.declared.fault.WorkFault.{WorkFault}
use Rattle.report.specs.Report.{IsReport}
use Rattle.summary.specs.Tallied.{AreCountsOf}
use Rattle.summary.specs.Texts.{counts_text}
use Rattle.summary.specs.declared.counts.Counts.{Counts}

-- the text has the counts of the report of the input
pub record IsSummary (input text : List ℕ) : Type 0 where
  pub report : List ℕ
  pub reported : IsReport input report
  pub counts : Counts
  pub counted : AreCountsOf report counts
  pub told : text ≡ counts_text counts

-- a fault of running a log in order, or of writing
abbrev pub IsOfSummary : WorkFault → Type 0
IsOfSummary (WorkFault.Run fault) = IsFaultInOrder fault
IsOfSummary (WorkFault.NoSuchPlace places) = ⊥
IsOfSummary WorkFault.NoSuchTable = ⊥
IsOfSummary WorkFault.NoSuchUser = ⊥
