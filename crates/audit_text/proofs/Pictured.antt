-- From a log that was run as far as a place to the text that it was read from, for the picture of its grants.
use Rattle.std.proofs.Common.{◌≡◌, ◌<◌, ◌⊎◌, ◌∙◌, ℕ, List, Option, Some, None, ap, arith, length, sym, inl, inr}
use Rattle.std.specs.Prelude.{Err, IfSome, Ok, OnOk, Result}
use Rattle.std.specs.Io.KnownBytes.{Appends}
use Rattle.line_io.specs.Known.{AppendsFront}
use Rattle.model_base.specs.declared.statement.Statement.{Statement}
use Rattle.sequencer.specs.Log.{Accepted}
use Rattle.batched_text.specs.Reaching.{IsLogOfFront, IsLogUpTo}
use Rattle.audit_text.specs.Picture.{EndsBefore, IsPicture, IsPictureOf, place_before}
use Rattle.audit_text.specs.declared.fault.WorkFault.{WorkFault}
use Rattle.audit_text.proofs.Earlier.{all-read}

pub pictured : (result : Result (Unit {0}) WorkFault) (i old new : Option (List ℕ)) (log : Accepted) (limit : Option ℕ) → IsLogUpTo i limit log
    → OnOk result ((text : List ℕ) × (IsPictureOf log limit text × Appends old new text))
    → OnOk result (IfSome i (λ input. (text : List ℕ) × (IsPicture input limit text × Appends old new text)))
pictured (Ok x) None old new log limit so picture = tt
pictured (Ok x) (Some input) old new log limit so picture = (picture.0, ((log, (so, picture.1.0)), picture.1.1))
pictured (Err fault) i old new log limit so picture = tt

-- nothing was written, or a beginning of the picture
pub begun : (i old new : Option (List ℕ)) (log : Accepted) (limit : Option ℕ) → IsLogUpTo i limit log
    → (new ≡ old) ⊎ ((text : List ℕ) × (IsPictureOf log limit text × AppendsFront old new text))
    → IfSome i (λ input. (new ≡ old) ⊎ ((text : List ℕ) × (IsPicture input limit text × AppendsFront old new text)))
begun None old new log limit so picture = tt
begun (Some input) old new log limit so (inl same) = inl same
begun (Some input) old new log limit so (inr picture) = inr (picture.0, ((log, (so, picture.1.0)), picture.1.1))

-- all lines were taken, and the log ends before the place
ends_before-front : (input : List ℕ) (log : Accepted) (limit : Option ℕ) (places : ℕ) → IsLogOfFront input limit log
    → places ≡ length log.statements → places < place_before log.statements limit → EndsBefore input limit places
ends_before-front input log None places so all past = absurd (omega (arith, all, past))
ends_before-front input log (Some place) places so all past =
    elim so.enough [
      | inl has ↦ absurd (omega (arith, has, all, past))
      | inr none ↦ (so.earlier, (all-read input (Some place) log so none, (sym (all ∙ ap length so.made.statements), past)))
    ]

pub ends_before : (i : Option (List ℕ)) (log : Accepted) (limit : Option ℕ) (places : ℕ) → IsLogUpTo i limit log
    → places ≡ length log.statements → places < place_before log.statements limit → IfSome i (λ input. EndsBefore input limit places)
ends_before None log limit places so all past = tt
ends_before (Some input) log limit places so all past = ends_before-front input log limit places so all past
