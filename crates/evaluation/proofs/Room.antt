-- The room that the words of a place take.
use Rattle.std.proofs.Common.{◌≡◌, ◌<◌, ◌+◌, ◌-◌, ◌^◌, ◌≤◌, ℕ, List, [], ◌∷◌, cond, fold, length, map, replicate, refl, ◌∙◌, ap, arith, length-append}
use Rattle.std.specs.Prelude.{count_by}
use Rattle.std.specs.List.{sum_by}
use Rattle.std.proofs.lemmas.List.{length-map, length-replicate}
use Rattle.model_base.specs.declared.outcome.Outcome.{Outcome}
use Rattle.model_base.specs.declared.statement.Form.{Form}
use Rattle.model_base.specs.declared.statement.Step.{Step}
use Rattle.model_base.specs.declared.statement.Step.TheVariants.{Const, Compute, Has, Load, Store, Insert, Delete, Check, Skip, Out}
use Rattle.model_base.specs.Outcomes.{needs}
use Rattle.body.specs.Premises.{HasFittingBody, outputs_of_step}
use Rattle.own_words.specs.Words.{bits, header, is_out, outputs_of, outputs_told}
use Rattle.own_words.proofs.Undoing.{needs_length}
use Rattle.evaluation.proofs.Executing.{few_accesses}

-- the numbers of a statement's needs are words
pub few_needs : (form : Form) → HasFittingBody form → length (needs form) < 2 ^ 64
few_needs form fits = omega (arith, needs_length form, few_accesses form fits)

-- a step has at most one output
one_if_out : (step : Step) → cond (is_out step) 1 0 ≡ outputs_of_step step
one_if_out (Const to value) = refl
one_if_out (Compute operation to left right) = refl
one_if_out (Has to table row) = refl
one_if_out (Load to table row column) = refl
one_if_out (Store table row column from) = refl
one_if_out (Insert table row from) = refl
one_if_out (Delete table row) = refl
one_if_out (Check of) = refl
one_if_out (Skip of steps) = refl
one_if_out (Out of) = refl

-- so the steps with an output are counted as the outputs are
counted_from : (steps : List Step) (count : ℕ) → fold (λ n step. n + cond (is_out step) 1 0) count steps ≡ fold (λ n step. n + outputs_of_step step) count steps
counted_from [] count = refl
counted_from (step ∷ steps) count =
    ap (λ more. fold (λ n other. n + cond (is_out other) 1 0) (count + more) steps) (one_if_out step)
    ∙ counted_from steps (count + outputs_of_step step)

pub outputs_counted : (steps : List Step) → count_by is_out steps ≡ sum_by outputs_of_step steps
outputs_counted steps = counted_from steps 0

-- a statement has at most eight outputs
pub few_outputs : (form : Form) → HasFittingBody form → outputs_of form ≤ 8
few_outputs (Form.Create table columns) fits = omega arith
few_outputs (Form.Run accesses steps deed) fits = omega (arith, outputs_counted steps, fits.outputs)
few_outputs (Form.Deed deed) fits = omega arith

-- so a header has at most twelve words
pub header_fits : (form : Form) (outcome : Outcome) → HasFittingBody form → length (outputs_told outcome) ≤ 8 → length (header form outcome) ≤ 12
header_fits form outcome fits few =
    let outputs = outputs_told outcome in
    let rest : List ℕ = replicate (outputs_of form - length outputs) 0 in
    omega (arith, few_outputs form fits, length-append (map bits outputs) rest, length-map outputs bits, length-replicate {A = ℕ} (outputs_of form - length outputs) 0)
