-- From a log that was run to the text that it was read from.
use Rattle.std.proofs.Common.{◌≡◌, ◌⊎◌, ℕ, List, Option, Some, None, inl, inr}
use Rattle.std.specs.Prelude.{Err, IfSome, Ok, OnOk, Result}
use Rattle.std.specs.Io.KnownBytes.{Appends}
use Rattle.line_io.specs.Known.{AppendsFront}
use Rattle.sequencer.specs.Log.{Accepted}
use Rattle.audit_text.specs.RowsBefore.{IsLogBefore}
use Rattle.audit_text.specs.declared.fault.WorkFault.{WorkFault}

module _ (says : Accepted → List ℕ → Type 0) where
  -- what the text says of the log, it says of the input
  abbrev SaysOf : List ℕ → Option ℕ → List ℕ → Type 0
  SaysOf input limit text = (log : Accepted) × (IsLogBefore input limit log × says log text)

  pub told : (result : Result (Unit {0}) WorkFault) (i old new : Option (List ℕ)) (log : Accepted) (limit : Option ℕ)
      → IfSome i (λ input. IsLogBefore input limit log) → OnOk result ((text : List ℕ) × (says log text × Appends old new text))
      → OnOk result (IfSome i (λ input. (text : List ℕ) × (SaysOf input limit text × Appends old new text)))
  told (Ok x) None old new log limit so said = tt
  told (Ok x) (Some input) old new log limit so said = (said.0, ((log, (so, said.1.0)), said.1.1))
  told (Err fault) i old new log limit so said = tt

  -- nothing was written, or a beginning of it
  pub begun : (i old new : Option (List ℕ)) (log : Accepted) (limit : Option ℕ) → IfSome i (λ input. IsLogBefore input limit log)
      → (new ≡ old) ⊎ ((text : List ℕ) × (says log text × AppendsFront old new text))
      → IfSome i (λ input. (new ≡ old) ⊎ ((text : List ℕ) × (SaysOf input limit text × AppendsFront old new text)))
  begun None old new log limit so said = tt
  begun (Some input) old new log limit so (inl same) = inl same
  begun (Some input) old new log limit so (inr said) = inr (said.0, ((log, (so, said.1.0)), said.1.1))

-- what the log lacks, the input lacks
pub lacks : (Lacks : Accepted → Type 0) (i : Option (List ℕ)) (log : Accepted) (limit : Option ℕ) → IfSome i (λ input. IsLogBefore input limit log)
    → Lacks log → IfSome i (λ input. (log : Accepted) × (IsLogBefore input limit log × Lacks log))
lacks Lacks None log limit so none = tt
lacks Lacks (Some input) log limit so none = (log, (so, none))
