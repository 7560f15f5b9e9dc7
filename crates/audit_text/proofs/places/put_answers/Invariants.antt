use Rattle.std.proofs.Common.{◌≡◌, ◌++◌, ℕ, Bool, List, take}
use Rattle.model_base.specs.declared.statement.Statement.{Statement}
use Rattle.sequencer.specs.Catalog.{Names}
use Rattle.audit_text.specs.Places.{AreAnswered, AreAnswers}
use Rattle.audit_text.proofs.places.put_answers.Given as goal

-- so far, wherever the texts are the answers
abbrev pub invariant-loop-place : goal.invariant-loop-place
invariant-loop-place l =
    (log : List Statement) (names : Names) (checked : Bool) → AreAnswered log names checked l.sorted l.texts
    → (told : List ℕ) × (AreAnswers log names checked (take l.place-index l.places) told × (l.text.items ≡ l.initial.text.items ++ told))
