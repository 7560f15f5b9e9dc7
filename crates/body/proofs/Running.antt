-- A run begins on the rows that the window shows, goes through the steps and ends.
use Rattle.std.proofs.Common.{◌≡◌, ℕ, zero, suc, ◌+◌, ◌<◌, ◌≤◌, ℤ, pos, List, [], ◌∷◌, length, drop, get_or, refl, sym, ◌∙◌, ap, arith, add-one, drop-cons}
use Rattle.std.specs.Prelude.{replicate}
use Rattle.model_base.specs.declared.statement.Access.{Access}
use Rattle.model_base.specs.declared.statement.Step.{Step}
use Rattle.model_base.specs.Rows.{Rows}
use Rattle.model_base.specs.Body.{Machine, Effect, completed, after_step, perform, run_steps, meaning}
use Rattle.body.specs.declared.window.Window.{Window}
use Rattle.body.specs.Shown.{WindowShows}
use Rattle.body.specs.Work.{seen}
use Rattle.body.proofs.Rows.{with_rows-shown}

pub begins : (steps : List Step) (accesses : List Access) (window : Window) (rows : Rows) → WindowShows accesses window rows → window.outputs ≡ [] → meaning steps accesses rows ≡ run_steps accesses steps 0 0 (seen accesses rows window (replicate 16 (pos 0)))
begins steps accesses window rows shown fresh =
    ap (λ (m : Rows). run_steps accesses steps 0 0 (record { rows = m; registers = replicate 16 (pos 0); outputs = [] })) (sym (with_rows-shown rows accesses window.rows shown))
    ∙ ap (λ (o : List ℤ). run_steps accesses steps 0 0 (record { rows = (seen accesses rows window []).rows; registers = replicate 16 (pos 0); outputs = o })) (sym fresh)

module _ (accesses : List Access) where
  pub completes : (steps : List Step) (i n passed : ℕ) (m : Machine) → length steps ≤ i → run_steps accesses (drop i steps) n passed m ≡ completed m.rows m.outputs
  completes [] zero n passed m over = refl
  completes [] (suc i) n passed m over = refl
  completes (step ∷ steps) zero n passed m over = absurd (omega arith)
  completes (step ∷ steps) (suc i) n passed m over = completes steps i n passed m (omega arith)

  -- the next step decides what follows
  pub goes : (steps : List Step) (i passed : ℕ) (m : Machine) (step : Step) (effect : Effect) → i < length steps → step ≡ get_or steps i step → passed ≡ 0 → effect ≡ perform accesses step m → run_steps accesses (drop i steps) i passed m ≡ after_step i effect (λ next passed. run_steps accesses (drop (i + 1) steps) (i + 1) passed next)
  goes steps i passed m step effect within is none does =
      let one : drop i steps ≡ get_or steps i step ∷ drop (i + 1) steps = rw (add-one i) (drop-cons steps i step within) in
      ap (λ k. run_steps accesses (drop i steps) i k m) none
      ∙ ap (λ xs. run_steps accesses xs i 0 m) one
      ∙ ap (λ (s : Step). after_step i (perform accesses s m) (λ next passed. run_steps accesses (drop (i + 1) steps) (i + 1) passed next)) (sym is)
      ∙ ap (λ (e : Effect). after_step i e (λ next passed. run_steps accesses (drop (i + 1) steps) (i + 1) passed next)) (sym does)
