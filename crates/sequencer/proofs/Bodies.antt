-- The body of a statement that the log takes: it fits a window and the columns of the tables, and has at most 64 steps.
use Rattle.std.proofs.Common.{◌≡◌, ◌≤◌, ℕ, List, [], ◌∷◌, length, map, None, refl, sym, arith}
use Rattle.std.specs.Prelude.{◌==◌}
use Rattle.std.specs.List.{sum_by, AllByRecursion}
use Rattle.std.proofs.lemmas.Bool.{eqb-true}
use Rattle.std.proofs.lemmas.List.{length-map}
use Rattle.std.proofs.lemmas.List.Elements.{All-from_recursion}
use Rattle.std.proofs.lemmas.List.Sums.{sum_by-cons}
use Rattle.model_base.specs.declared.statement.Form.{Form}
use Rattle.model_base.specs.declared.statement.Step.{Step}
use Rattle.body.specs.Premises.{IsNarrow, IsRunnable, outputs_of_step}
use Rattle.body.specs.Shape.{StepFits, FormFits}
use Rattle.body.specs.Steps.{steps_of}
use Rattle.log_text.specs.Statement.{IsFormInGrammar, IsInGrammar, IsStep, Sentence, outs_of}
use Rattle.log_text.specs.declared.statement.RawForm.{RawForm}
use Rattle.log_text.specs.declared.statement.RawStep.{RawStep}
use Rattle.sequencer.specs.Names.{is_known}
use Rattle.sequencer.specs.Catalog.{Names, deed_in, numbered, numbered_access, numbered_form, numbered_step, with_users}
use Rattle.sequencer.specs.Refusal.{accesses_refusal, columns_of, deed_refusal, form_refusal, or_refused, refusal, step_refusal, steps_refusal, refuse_unless}
use Rattle.sequencer.specs.Whole.{HasFilledRows, IsFilled, columns_by}
use Rattle.sequencer.specs.declared.refused.Refused.{Refused}
use Rattle.sequencer.proofs.Passed.{both_none, form_passes, passes}

-- a step fits a window and the columns of the tables, and inserts no row without columns
record IsSound (names : Names) (step : Step) : Type 0 where
  narrow : IsNarrow step
  fits : StepFits (columns_by names) step
  filled : IsFilled step

width-is : (names : Names) (table : List ℕ) (width : ℕ)
    → or_refused (refuse_unless (is_known names.tables table) Refused.UnknownTable) (refuse_unless (width == columns_of names table) Refused.BadColumns) ≡ None → width ≡ columns_of names table
width-is names table width e =
    eqb-true width (columns_of names table) (passes (width == columns_of names table) Refused.BadColumns (both_none (refuse_unless (is_known names.tables table) Refused.UnknownTable) _ e).1)

step-sound : (names : Names) (users : List (List ℕ)) (later : ℕ) (step : RawStep) → IsStep step → step_refusal names later step ≡ None
    → IsSound names (numbered_step (record names { users = users }) step)
step-sound names users later (RawStep.Const to value) h e = record { narrow = tt; fits = h.1; filled = tt }
step-sound names users later (RawStep.Insert table row from) h e = record { narrow = h.3; fits = width-is names table (length from) e; filled = h.2 }
step-sound names users later step h e = record { narrow = tt; fits = tt; filled = tt }

steps-sound : (names : Names) (users : List (List ℕ)) (steps : List RawStep) → AllByRecursion IsStep steps → steps_refusal names steps ≡ None
    → AllByRecursion (IsSound names) (map (numbered_step (record names { users = users })) steps)
steps-sound names users [] h e = tt
steps-sound names users (step ∷ steps) h e =
    let parts = both_none (step_refusal names (length steps) step) (steps_refusal names steps) e in
    (step-sound names users (length steps) step h.0 parts.0, steps-sound names users steps h.1 parts.1)

step-outputs : (names : Names) (step : RawStep) → outputs_of_step (numbered_step names step) ≡ outs_of step
step-outputs names (RawStep.Out of) = refl
step-outputs names step = refl

steps-outputs : (names : Names) (steps : List RawStep) → sum_by outputs_of_step (map (numbered_step names) steps) ≡ sum_by outs_of steps
steps-outputs names [] = refl
steps-outputs names (step ∷ steps) =
    rw (sum_by-cons outputs_of_step (numbered_step names step) (map (numbered_step names) steps), step-outputs names step, steps-outputs names steps)
    (sym (sum_by-cons outs_of step steps))

-- the body of a statement that the log takes
pub record HasSoundBody (names : Names) (user : ℕ) (form : Form) : Type 0 where
  pub runnable : IsRunnable (record { user = user; form = form })
  pub steps : length (steps_of form) ≤ 64
  pub fits : FormFits (columns_by names) form
  pub filled : HasFilledRows form

form_sound : (names : Names) (users : List (List ℕ)) (user : ℕ) (form : RawForm) → IsFormInGrammar form → form_refusal names form ≡ None
    → HasSoundBody names user (numbered_form (record names { users = users }) form)
form_sound names users user (RawForm.Run accesses steps deed) h e =
    let named : Names = record names { users = users } in
    let found : List Step = map (numbered_step named) steps in
    let first = both_none (accesses_refusal names [] accesses) _ e in
    let rest = both_none (steps_refusal names steps) (deed_refusal names deed) first.1 in
    let sound = All-from_recursion (IsSound names) found (steps-sound names users steps h.5 rest.0) in
    record {
      runnable = record {
        places = omega (arith, h, length-map accesses (numbered_access named));
        columns = λ k d low. (sound k d low).narrow;
        outputs = omega (arith, h, steps-outputs named steps);
      };
      steps = omega (arith, h, length-map steps (numbered_step named));
      fits = λ k d low. (sound k d low).fits;
      filled = λ k d low. (sound k d low).filled;
    }
form_sound names users user form h e = record { runnable = tt; steps = omega arith; fits = tt; filled = tt }

pub sound_body : (names : Names) (sentence : Sentence) → IsInGrammar sentence → refusal names sentence ≡ None
    → HasSoundBody names (numbered names sentence).user (numbered names sentence).form
sound_body names sentence h e =
    form_sound names (with_users names sentence.user (deed_in sentence.form)).users (numbered names sentence).user sentence.form h.form (form_passes names sentence e)
