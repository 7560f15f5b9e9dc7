-- A body gives no more outputs than it has OUT steps, and if it ends early, it ends at one of its steps.
use Rattle.std.proofs.Common.{ℕ, zero, suc, ◌+◌, ◌<◌, ◌≤◌, ℤ, pos, Option, Some, None, List, [], ◌∷◌, length, replicate, arith, length-append}
use Rattle.std.specs.Prelude.{is_some}
use Rattle.std.specs.List.{sum_by}
use Rattle.std.proofs.lemmas.List.Sums.{sum_by-cons}
use Rattle.model_base.specs.declared.deed.Kind.TheVariants.{Read, Update, Insert, Delete}
use Rattle.model_base.specs.declared.statement.Access.{Access}
use Rattle.model_base.specs.declared.statement.Form.{Form}
use Rattle.model_base.specs.declared.statement.Step.{Step}
use Rattle.model_base.specs.declared.statement.Step.TheVariants.{Const, Compute, Has, Load, Store, Insert as InsertStep, Delete as DeleteStep, Check, Skip, Out}
use Rattle.model_base.specs.Body.{Machine, Effect, goes_on, aborts, is_undeclared, Ending, completed, aborted, undeclared, computed, declared, fits_64_bits, is_zero, put, put_fitting, read_register, row_number, touch_declared, load_column, store_column, insert_row, delete_row, perform, after_step, run_steps, flag}
use Rattle.model_base.specs.Outcomes.{body}
use Rattle.model_base.specs.Rows.{Rows}
use Rattle.body.specs.Premises.{outputs_of_step}
use Rattle.body.specs.Steps.{EndsWithin, steps_of}
use Rattle.model_base.proofs.Replay.{by_cases}

-- after a step that goes on there are at most this many outputs
abbrev HasAtMost : ℕ → Effect → Type 0
HasAtMost most (goes_on m passed) = length m.outputs ≤ most
HasAtMost most (aborts reason) = Unit {0}
HasAtMost most is_undeclared = Unit {0}

module _ (m : Machine) (most : ℕ) (few : length m.outputs ≤ most) where
  fitting_few : (to : ℕ) (value : ℤ) → HasAtMost most (put_fitting m to value)
  fitting_few to value = by_cases (fits_64_bits value) (λ fit. rw fit few) (λ over. rw over tt)

  touched_few : (table : ℕ) (found : Option Access) (effect : ℕ → Option (List ℤ) → Effect)
      → ((row : ℕ) (content : Option (List ℤ)) → HasAtMost most (effect row content)) → HasAtMost most (touch_declared m table found effect)
  touched_few table None effect each = tt
  touched_few table (Some access) effect each = each access.key.row (m.rows table access.key.row)

  loaded_few : (to column : ℕ) (content : Option (List ℤ)) → HasAtMost most (load_column m to column content)
  loaded_few to column None = tt
  loaded_few to column (Some row) = few

  stored_few : (table column from row : ℕ) (content : Option (List ℤ)) → HasAtMost most (store_column m table column from row content)
  stored_few table column from row None = tt
  stored_few table column from row (Some columns) = few

  inserted_few : (table : ℕ) (from : List ℕ) (row : ℕ) (content : Option (List ℤ)) → HasAtMost most (insert_row m table from row content)
  inserted_few table from row None = few
  inserted_few table from row (Some columns) = tt

  deleted_few : (table row : ℕ) (content : Option (List ℤ)) → HasAtMost most (delete_row m table row content)
  deleted_few table row None = tt
  deleted_few table row (Some columns) = few

-- a step adds no more outputs than it makes at most
performed_few : (accesses : List Access) (step : Step) (m : Machine) (most : ℕ) → length m.outputs + outputs_of_step step ≤ most → HasAtMost most (perform accesses step m)
performed_few accesses (Const to value) m most few = omega (arith, few)
performed_few accesses (Compute operation to left right) m most few =
    fitting_few m most (omega (arith, few)) to (computed operation (read_register m left) (read_register m right))
performed_few accesses (Has to table row) m most few =
    let less : length m.outputs ≤ most = omega (arith, few) in
    touched_few m most less table (declared accesses Read table (row_number m.registers row)) (λ number found. put m to (flag (is_some found))) (λ number content. less)
performed_few accesses (Load to table row column) m most few =
    let less : length m.outputs ≤ most = omega (arith, few) in
    touched_few m most less table (declared accesses Read table (row_number m.registers row)) (λ number found. load_column m to column found) (λ number content. loaded_few m most less to column content)
performed_few accesses (Store table row column from) m most few =
    let less : length m.outputs ≤ most = omega (arith, few) in
    touched_few m most less table (declared accesses Update table (row_number m.registers row)) (λ number found. store_column m table column from number found) (λ number content. stored_few m most less table column from number content)
performed_few accesses (InsertStep table row from) m most few =
    let less : length m.outputs ≤ most = omega (arith, few) in
    touched_few m most less table (declared accesses Insert table (row_number m.registers row)) (λ number found. insert_row m table from number found) (λ number content. inserted_few m most less table from number content)
performed_few accesses (DeleteStep table row) m most few =
    let less : length m.outputs ≤ most = omega (arith, few) in
    touched_few m most less table (declared accesses Delete table (row_number m.registers row)) (λ number found. delete_row m table number found) (λ number content. deleted_few m most less table number content)
performed_few accesses (Check of) m most few = by_cases (is_zero (read_register m of)) (λ zeroed. rw zeroed tt) (λ passed. rw passed (omega (arith, few)))
performed_few accesses (Skip of steps) m most few = omega (arith, few)
performed_few accesses (Out of) m most few = let more = length-append m.outputs (read_register m of ∷ []) in omega (arith, few, more)

-- the end has at most this many outputs, or is at a step below
abbrev IsWithin : ℕ → ℕ → Ending → Type 0
IsWithin most end (completed rows outputs) = length outputs ≤ most
IsWithin most end (aborted step reason) = step < end
IsWithin most end (undeclared step) = step < end

within_more : (few most low high : ℕ) (ending : Ending) → few ≤ most → low ≤ high → IsWithin few low ending → IsWithin most high ending
within_more few most low high (completed rows outputs) more up within = omega (arith, more, within)
within_more few most low high (aborted step reason) more up within = omega (arith, up, within)
within_more few most low high (undeclared step) more up within = omega (arith, up, within)

run_within : (accesses : List Access) (steps : List Step) (number passed : ℕ) (m : Machine)
    → IsWithin (length m.outputs + sum_by outputs_of_step steps) (number + length steps) (run_steps accesses steps number passed m)
run_within accesses [] number passed m = omega arith
run_within accesses (step ∷ steps) number (suc passed) m =
    let sum = sum_by-cons outputs_of_step step steps in
    within_more (length m.outputs + sum_by outputs_of_step steps) (length m.outputs + sum_by outputs_of_step (step ∷ steps)) (number + 1 + length steps) (number + length (step ∷ steps))
    (run_steps accesses steps (number + 1) passed m) (omega (arith, sum)) (omega arith) (run_within accesses steps (number + 1) passed m)
run_within accesses (step ∷ steps) number zero m =
    by_effect (λ next passed. run_within accesses steps (number + 1) passed next) (perform accesses step m)
    (performed_few accesses step m (length m.outputs + outputs_of_step step) (omega arith))
  where
    by_effect : ((next : Machine) (passed : ℕ) → IsWithin (length next.outputs + sum_by outputs_of_step steps) (number + 1 + length steps) (run_steps accesses steps (number + 1) passed next))
        → (effect : Effect) → HasAtMost (length m.outputs + outputs_of_step step) effect
        → IsWithin (length m.outputs + sum_by outputs_of_step (step ∷ steps)) (number + length (step ∷ steps)) (after_step number effect (λ next passed. run_steps accesses steps (number + 1) passed next))
    by_effect rest (goes_on next passed) few =
        let sum = sum_by-cons outputs_of_step step steps in
        within_more (length next.outputs + sum_by outputs_of_step steps) (length m.outputs + sum_by outputs_of_step (step ∷ steps)) (number + 1 + length steps) (number + length (step ∷ steps))
        (run_steps accesses steps (number + 1) passed next) (omega (arith, few, sum)) (omega arith) (rest next passed)
    by_effect rest (aborts reason) few = omega arith
    by_effect rest is_undeclared few = omega arith

-- a body begins with no output, at its first step
from_none : (steps : List Step) (ending : Ending) → IsWithin (0 + sum_by outputs_of_step steps) (0 + length steps) ending → EndsWithin steps ending
from_none steps (completed rows outputs) within = omega (arith, within)
from_none steps (aborted step reason) within = omega (arith, within)
from_none steps (undeclared step) within = omega (arith, within)

pub ends_within : (form : Form) (rows : Rows) → EndsWithin (steps_of form) (body rows form)
ends_within (Form.Create table columns) rows = omega arith
ends_within (Form.Run accesses steps deed) rows =
    from_none steps (body rows (Form.Run accesses steps deed))
    (run_within accesses steps 0 0 (record { rows = rows; registers = replicate 16 (pos 0); outputs = [] }))
ends_within (Form.Deed deed) rows = omega arith
