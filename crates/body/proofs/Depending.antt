-- What a body results in depends on no row but those that its statement declares.
use Rattle.std.proofs.Common.{◌≡◌, ℕ, zero, suc, ◌+◌, ℤ, pos, Bool, true, false, Option, Some, None, List, [], ◌∷◌, refl, sym, ◌∙◌, ap, cond, subst}
use Rattle.std.specs.List.{find}
use Rattle.std.specs.Option.{is_some}
use Rattle.model_base.specs.declared.deed.Kind.{Kind}
use Rattle.model_base.specs.declared.deed.Kind.TheVariants.{Read, Update, Insert, Delete}
use Rattle.model_base.specs.declared.outcome.Reason.TheVariants.{Overflow, Check as CheckReason}
use Rattle.model_base.specs.declared.statement.Access.{Access}
use Rattle.model_base.specs.declared.statement.Form.{Form}
use Rattle.model_base.specs.declared.statement.Step.{Step}
use Rattle.model_base.specs.declared.statement.Step.TheVariants.{Const, Compute, Has, Load, Store, Insert as InsertStep, Delete as DeleteStep, Check, Skip, Out}
use Rattle.model_base.specs.Rows.{Rows, with_row}
use Rattle.model_base.specs.Privileges.{has_kind}
use Rattle.model_base.specs.Body.{Machine, Effect, goes_on, aborts, is_undeclared, of_kind, declared, is_of, is_zero, computed, fits_64_bits, put, flag, read_register, touch_declared, load_column, store_column, insert_row, delete_row, perform, after_step, run_steps, row_number}
use Rattle.body.specs.Laws.{AgreeAt, DependsOnDeclared, SameEnding}
use Rattle.body.specs.Room.{same_key}
use Rattle.body.proofs.Rows.{is_of-true}
use Rattle.model_base.proofs.Replay.{by_cases}

-- two machines that differ in rows that aren't declared alone
record AreAlike (accesses : List Access) (m n : Machine) : Type 0 where
  agree : AgreeAt accesses m.rows n.rows
  registers : m.registers ≡ n.registers
  outputs : m.outputs ≡ n.outputs

-- two effects that differ in such rows alone
abbrev SameEffect : List Access → Effect → Effect → Type 0
SameEffect accesses (goes_on m passed) (goes_on n also) = AreAlike accesses m n × (passed ≡ also)
SameEffect accesses (aborts reason) (aborts why) = reason ≡ why
SameEffect accesses is_undeclared is_undeclared = Unit {0}
SameEffect accesses _ _ = ⊥

-- an access that is found for a row's number is to that row
found_of : (u : ℕ) (number : ℤ) (accesses : List Access) (access : Access) → find (is_of u number) accesses ≡ Some access → is_of u number access ≡ true
found_of u number [] access at = cc
found_of u number (first ∷ accesses) access at =
    by_cases (is_of u number first)
    (λ hit. let e : Some first ≡ Some access = sym (ap (λ b. cond b (Some first) (find (is_of u number) accesses)) hit) ∙ at in let same : first ≡ access = cc in sym (ap (is_of u number) same) ∙ hit)
    (λ miss. found_of u number accesses access (sym (ap (λ b. cond b (Some first) (find (is_of u number) accesses)) miss) ∙ at))

-- the first machine with the second's rows
abbrev twin : Machine → Machine → Machine
twin next other = record { rows = other.rows; registers = next.registers; outputs = next.outputs }

twin_is : (accesses : List Access) (next other : Machine) → AreAlike accesses next other → twin next other ≡ other
twin_is accesses next other alike =
    ap (λ registers. record { rows = other.rows; registers = registers; outputs = next.outputs }) alike.registers
    ∙ ap (λ outputs. record { rows = other.rows; registers = other.registers; outputs = outputs }) alike.outputs

module _ (accesses : List Access) where
  -- so its row is declared
  is_declared : (u : ℕ) (number : ℤ) (access : Access) → find (is_of u number) accesses ≡ Some access → is_some (find (is_of u (pos access.key.row)) accesses) ≡ true
  is_declared u number access at =
      let own = is_of-true u number access (found_of u number accesses access at) in
      ap (λ n. is_some (find (is_of u n) accesses)) own.1 ∙ ap is_some at

  cond_same : (test : Bool) (a b c d : Effect) → SameEffect accesses a c → SameEffect accesses b d → SameEffect accesses (cond test a b) (cond test c d)
  cond_same true a b c d p q = p
  cond_same false a b c d p q = q

  -- the same row put into both maps
  put_same : (rows others : Rows) (u row : ℕ) (content : Option (List ℤ)) → AgreeAt accesses rows others → AgreeAt accesses (with_row rows u row content) (with_row others u row content)
  put_same rows others u row content agree t n is =
      by_cases (same_key u row t n) (λ same. rw same refl) (λ other. rw other (agree t n is))

  module _ (rows others : Rows) (registers outputs : List ℤ) (agree : AgreeAt accesses rows others) where
    abbrev m : Machine
    m = record { rows = rows; registers = registers; outputs = outputs }

    abbrev n : Machine
    n = record { rows = others; registers = registers; outputs = outputs }

    alike : AreAlike accesses m n
    alike = record { agree = agree; registers = refl; outputs = refl }

    -- a touch has the same effect if what it does with the row has
    touched : (kind : Kind) (u : ℕ) (number : ℤ) (on_m on_n : ℕ → Option (List ℤ) → Effect) → ((row : ℕ) (content : Option (List ℤ)) → SameEffect accesses (on_m row content) (on_n row content)) → SameEffect accesses (touch_declared m u (declared accesses kind u number) on_m) (touch_declared n u (declared accesses kind u number) on_n)
    touched kind u number on_m on_n same = by_found (find (is_of u number) accesses) refl
      where
        by_found : (found : Option Access) → find (is_of u number) accesses ≡ found → SameEffect accesses (touch_declared m u (of_kind kind found) on_m) (touch_declared n u (of_kind kind found) on_n)
        by_found None at = tt
        by_found (Some access) at =
            by_cases (has_kind access.kinds kind)
            (λ yes. rw yes (subst (λ (content : Option (List ℤ)). SameEffect accesses (on_m access.key.row (rows u access.key.row)) (on_n access.key.row content)) (agree u access.key.row (is_declared u number access at)) (same access.key.row (rows u access.key.row))))
            (λ no. rw no tt)

    loaded : (to column : ℕ) (content : Option (List ℤ)) → SameEffect accesses (load_column m to column content) (load_column n to column content)
    loaded to column None = refl
    loaded to column (Some columns) = (record { agree = agree; registers = refl; outputs = refl }, refl)

    stored : (u column from row : ℕ) (content : Option (List ℤ)) → SameEffect accesses (store_column m u column from row content) (store_column n u column from row content)
    stored u column from row None = refl
    stored u column from row (Some columns) = (record { agree = put_same rows others u row _ agree; registers = refl; outputs = refl }, refl)

    inserted : (u : ℕ) (from : List ℕ) (row : ℕ) (content : Option (List ℤ)) → SameEffect accesses (insert_row m u from row content) (insert_row n u from row content)
    inserted u from row None = (record { agree = put_same rows others u row _ agree; registers = refl; outputs = refl }, refl)
    inserted u from row (Some columns) = refl

    deleted : (u row : ℕ) (content : Option (List ℤ)) → SameEffect accesses (delete_row m u row content) (delete_row n u row content)
    deleted u row None = refl
    deleted u row (Some columns) = (record { agree = put_same rows others u row None agree; registers = refl; outputs = refl }, refl)

    put_alike : (to : ℕ) (value : ℤ) → SameEffect accesses (put m to value) (put n to value)
    put_alike to value = (record { agree = agree; registers = refl; outputs = refl }, refl)

    performed : (step : Step) → SameEffect accesses (perform accesses step m) (perform accesses step n)
    performed (Const to value) = put_alike to value
    performed (Compute operation to left right) =
        let value = computed operation (read_register m left) (read_register m right) in
        cond_same (fits_64_bits value) (put m to value) (aborts Overflow) (put n to value) (aborts Overflow) (put_alike to value) refl
    performed (Has to u row) = touched Read u (row_number registers row) (λ _ found. put m to (flag (is_some found))) (λ _ found. put n to (flag (is_some found))) (λ row content. put_alike to (flag (is_some content)))
    performed (Load to u row column) = touched Read u (row_number registers row) (λ _ found. load_column m to column found) (λ _ found. load_column n to column found) (λ row content. loaded to column content)
    performed (Store u row column from) = touched Update u (row_number registers row) (λ number found. store_column m u column from number found) (λ number found. store_column n u column from number found) (λ row content. stored u column from row content)
    performed (InsertStep u row from) = touched Insert u (row_number registers row) (λ number found. insert_row m u from number found) (λ number found. insert_row n u from number found) (λ row content. inserted u from row content)
    performed (DeleteStep u row) = touched Delete u (row_number registers row) (λ number found. delete_row m u number found) (λ number found. delete_row n u number found) (λ row content. deleted u row content)
    performed (Check of) = cond_same (is_zero (read_register m of)) (aborts CheckReason) (goes_on m 0) (aborts CheckReason) (goes_on n 0) refl (alike, refl)
    performed (Skip of steps) = (alike, refl)
    performed (Out of) = (record { agree = agree; registers = refl; outputs = refl }, refl)

  after_same : (number : ℕ) (steps : List Step) (effect also : Effect) → SameEffect accesses effect also
      → ((passed : ℕ) (next other : Machine) → AreAlike accesses next other → SameEnding accesses (run_steps accesses steps (number + 1) passed next) (run_steps accesses steps (number + 1) passed other))
      → SameEnding accesses (after_step number effect (λ next passed. run_steps accesses steps (number + 1) passed next)) (after_step number also (λ next passed. run_steps accesses steps (number + 1) passed next))
  after_same number steps (goes_on next passed) (goes_on other also) same rest =
      subst (λ (count : ℕ). SameEnding accesses (run_steps accesses steps (number + 1) passed next) (run_steps accesses steps (number + 1) count other)) same.1 (rest passed next other same.0)
  after_same number steps (goes_on next passed) (aborts why) same rest = absurd same
  after_same number steps (goes_on next passed) is_undeclared same rest = absurd same
  after_same number steps (aborts reason) (goes_on other also) same rest = absurd same
  after_same number steps (aborts reason) (aborts why) same rest = (refl, same)
  after_same number steps (aborts reason) is_undeclared same rest = absurd same
  after_same number steps is_undeclared (goes_on other also) same rest = absurd same
  after_same number steps is_undeclared (aborts why) same rest = absurd same
  after_same number steps is_undeclared is_undeclared same rest = refl

  run_same : (steps : List Step) (number passed : ℕ) (next other : Machine) → AreAlike accesses next other → SameEnding accesses (run_steps accesses steps number passed next) (run_steps accesses steps number passed other)
  run_same [] number passed next other alike = (alike.agree, alike.outputs)
  run_same (step ∷ steps) number (suc passed) next other alike = run_same steps (number + 1) passed next other alike
  run_same (step ∷ steps) number zero next other alike =
      subst (λ (also : Machine). SameEnding accesses (run_steps accesses (step ∷ steps) number zero next) (run_steps accesses (step ∷ steps) number zero also)) (twin_is accesses next other alike)
      (after_same number steps (perform accesses step next) (perform accesses step (twin next other)) (performed next.rows other.rows next.registers next.outputs alike.agree step)
      (λ count m n also. run_same steps (number + 1) count m n also))

pub depends_on_declared : DependsOnDeclared
depends_on_declared (Form.Create table columns) rows others agree = (agree, refl)
depends_on_declared (Form.Run accesses steps deed) rows others agree =
    run_same accesses steps 0 0 _ _ (record { agree = agree; registers = refl; outputs = refl })
depends_on_declared (Form.Deed deed) rows others agree = (agree, refl)
