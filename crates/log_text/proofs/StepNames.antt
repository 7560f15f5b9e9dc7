-- Where a step stands.
use Rattle.std.proofs.Common.{◌≡◌, ◌<◌, ℕ, ◌+◌, ap, ◌∙◌, arith, Bool, false, List, [], ◌∷◌, ◌++◌, Some, None, refl}
use Rattle.std.proofs.lemmas.Bool.{lt-ltb}
use Rattle.std.proofs.lemmas.List.{append-nil}
use Rattle.line_words.specs.StepWords.{step_name, step_word}
use Rattle.line_words.specs.Faults.{or_else}
use Rattle.log_text.specs.Fault.{OfStep, expected_in, fault_from, is_deed, step_fault}
use Rattle.log_text.specs.Parsing.{fault_behind}
use Rattle.line_words.specs.declared.step_name.StepName.{StepName}
use Rattle.line_words.specs.declared.step_name.StepName.TheVariants.{Const, Compute, Has, Load, Store, Insert, Delete, Check, Skip, Out}
use Rattle.log_text.proofs.OperationWords.{begins_no_deed}

-- only the 65th step and the ninth output are too many
pub no_step_fault : (s : StepName) (n o : ℕ) → n < 64 → (s ≡ Out → o < 8) → step_fault (Some s) n o ≡ None
no_step_fault Out n o low few = let f = few refl in rw (lt-ltb n 64 low, lt-ltb o 8 f) refl
no_step_fault Const n o low few = rw (lt-ltb n 64 low) refl
no_step_fault (Compute operation) n o low few = rw (lt-ltb n 64 low) refl
no_step_fault Has n o low few = rw (lt-ltb n 64 low) refl
no_step_fault Load n o low few = rw (lt-ltb n 64 low) refl
no_step_fault Store n o low few = rw (lt-ltb n 64 low) refl
no_step_fault Insert n o low few = rw (lt-ltb n 64 low) refl
no_step_fault Delete n o low few = rw (lt-ltb n 64 low) refl
no_step_fault Check n o low few = rw (lt-ltb n 64 low) refl
no_step_fault Skip n o low few = rw (lt-ltb n 64 low) refl

-- the word of a step begins no deed
pub no_deed : (s : StepName) → is_deed (step_word s) ≡ false
no_deed Const = refl
no_deed (Compute operation) = begins_no_deed operation
no_deed Has = refl
no_deed Load = refl
no_deed Store = refl
no_deed Insert = refl
no_deed Delete = refl
no_deed Check = refl
no_deed Skip = refl
no_deed Out = refl

-- where a step stands
pub at_step : (w : List ℕ) (ws : List (List ℕ)) (v n o : ℕ) → is_deed w ≡ false → fault_from (OfStep v n o ∷ []) (w ∷ ws) ≡ or_else (step_fault (step_name w) n o) (fault_from (expected_in (step_name w) v n o ++ []) ws)
at_step w ws v n o e = rw e refl

-- a step's word, and what is after it
pub goes_on : (old mid left : List (List ℕ)) (s : StepName) (v n o outs : ℕ) (more : Bool)
    → old ≡ step_word s ∷ mid → step_name (step_word s) ≡ Some s → step_fault (Some s) n o ≡ None → outs ≡ 0
    → fault_from (expected_in (Some s) v n o) mid ≡ fault_behind more v (n + 1) o left
    → fault_from (OfStep v n o ∷ []) old ≡ fault_behind more v (n + 1) (o + outs) left
goes_on old mid left s v n o outs more is named fits none rest =
    let same : o ≡ o + outs = omega (arith, none) in
    ap (fault_from (OfStep v n o ∷ [])) is
    ∙ at_step (step_word s) mid v n o (no_deed s)
    ∙ ap (λ t. or_else (step_fault t n o) (fault_from (expected_in t v n o ++ []) mid)) named
    ∙ ap (λ f. or_else f (fault_from (expected_in (Some s) v n o ++ []) mid)) fits
    ∙ ap (λ ps. fault_from ps mid) (append-nil (expected_in (Some s) v n o))
    ∙ rest ∙ ap (λ k. fault_behind more v (n + 1) k left) same
