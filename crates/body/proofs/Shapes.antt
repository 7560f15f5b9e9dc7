-- A body leaves rows of the right shape, and so does a log.
use Rattle.std.proofs.Common.{◌≡◌, ℕ, zero, suc, ◌+◌, ℤ, pos, Bool, true, false, Option, Some, None, List, [], ◌∷◌, All, length, map, replicate, slice_index_or, slice_set, take, refl, ◌∙◌, cond, subst}
use Rattle.std.specs.Option.{is_some}
use Rattle.std.proofs.lemmas.List.{length-set, length-map}
use Rattle.std.proofs.lemmas.List.Elements.{All-append, All-cons, All-head, All-nil, All-set, All-tail, All-take}
use Rattle.model_base.specs.declared.deed.Deed.{Deed}
use Rattle.model_base.specs.declared.deed.Kind.{Kind}
use Rattle.model_base.specs.declared.deed.Kind.TheVariants.{Read, Update, Insert, Delete}
use Rattle.model_base.specs.declared.deed.Need.{Need}
use Rattle.model_base.specs.declared.outcome.Reason.TheVariants.{Overflow, Check as CheckReason}
use Rattle.model_base.specs.declared.statement.Access.{Access}
use Rattle.model_base.specs.declared.statement.Form.{Form}
use Rattle.model_base.specs.declared.statement.Statement.{Statement}
use Rattle.model_base.specs.declared.statement.Step.{Step}
use Rattle.model_base.specs.declared.statement.Step.TheVariants.{Const, Compute, Has, Load, Store, Insert as InsertStep, Delete as DeleteStep, Check, Skip, Out}
use Rattle.model_base.specs.Outcomes.{World, at_place, body, changed, deeds_of, empty_world, judged, missing, owners, step_form, world_after}
use Rattle.model_base.specs.Rows.{Rows, with_row}
use Rattle.model_base.specs.Body.{Machine, Effect, goes_on, aborts, is_undeclared, Ending, completed, aborted, undeclared, declared, is_zero, computed, fits_64_bits, put, flag, read_register, touch_declared, load_column, store_column, insert_row, delete_row, perform, after_step, run_steps, row_number}
use Rattle.body.specs.Room.{same_key}
use Rattle.body.specs.Shape.{StepFits, FormFits, HasColumns, IsNumber, IsRowOf, KeepsColumns, KeepsShape, LogsHaveShape}
use Rattle.body.proofs.Rows.{same_key-true}
use Rattle.model_base.proofs.Replay.{by_cases}

module _ (P : ℤ → Type 0) (zero-such : P (pos 0)) (one-such : P (pos 1)) (such : (value : ℤ) → fits_64_bits value ≡ true → P value) where
  -- each row has the columns of its table, and each of its numbers is such
  abbrev Shaped : (ℕ → ℕ) → Rows → Type 0
  Shaped columns rows = (table row : ℕ) → IsRowOf P (columns table) (rows table row)

  -- a number read from a list of numbers, or 0
  number_at : (numbers : List ℤ) (index : ℕ) → All P numbers → P (slice_index_or numbers index (pos 0))
  number_at [] index all = zero-such
  number_at (number ∷ numbers) zero all = All-head P number numbers all
  number_at (number ∷ numbers) (suc index) all = number_at numbers index (All-tail P number numbers all)

  zeros : (count : ℕ) → All P (replicate count (pos 0))
  zeros zero = All-nil P
  zeros (suc count) = All-cons P (pos 0) (replicate count (pos 0)) zero-such (zeros count)

  is_flag : (test : Bool) → P (flag test)
  is_flag true = one-such
  is_flag false = zero-such

  -- a machine with rows of the right shape, and with numbers of 64 bits
  record IsShaped (columns : ℕ → ℕ) (m : Machine) : Type 0 where
    rows : Shaped columns m.rows
    registers : All P m.registers
    outputs : All P m.outputs

  abbrev ShapedEffect : (ℕ → ℕ) → Effect → Type 0
  ShapedEffect columns (goes_on m passed) = IsShaped columns m
  ShapedEffect columns (aborts reason) = Unit {0}
  ShapedEffect columns is_undeclared = Unit {0}

  abbrev ShapedEnding : (ℕ → ℕ) → Ending → Type 0
  ShapedEnding columns (completed rows outputs) = Shaped columns rows × All P outputs
  ShapedEnding columns (aborted step reason) = Unit {0}
  ShapedEnding columns (undeclared step) = Unit {0}

  module _ (columns : ℕ → ℕ) where
    -- a row of its table's shape put into a map
    put_row : (rows : Rows) (u row : ℕ) (content : Option (List ℤ)) → Shaped columns rows → IsRowOf P (columns u) content → Shaped columns (with_row rows u row content)
    put_row rows u row content shaped fits_64_bits t n =
        by_cases (same_key u row t n)
        (λ same. rw same (subst (λ (table : ℕ). IsRowOf P (columns table) content) (same_key-true u row t n same).0 fits_64_bits))
        (λ other. rw other (shaped t n))

    module _ (m : Machine) (shaped : IsShaped columns m) where
      number : (register : ℕ) → P (read_register m register)
      number register = number_at m.registers register shaped.registers

      numbers : (from : List ℕ) → All P (map (read_register m) from)
      numbers [] = All-nil P
      numbers (register ∷ from) = All-cons P (read_register m register) (map (read_register m) from) (number register) (numbers from)

      put_number : (to : ℕ) (value : ℤ) → P value → ShapedEffect columns (put m to value)
      put_number to value fits_64_bits =
          record { rows = shaped.rows; registers = All-set P m.registers to value fits_64_bits shaped.registers; outputs = shaped.outputs }

      put_fitting : (to : ℕ) (value : ℤ) → ShapedEffect columns (cond (fits_64_bits value) (put m to value) (aborts Overflow))
      put_fitting to value =
          by_cases (fits_64_bits value) (λ fit. rw fit (put_number to value (such value fit))) (λ over. rw over tt)

      touched : (accesses : List Access) (kind : Kind) (u : ℕ) (number : ℤ) (effect : ℕ → Option (List ℤ) → Effect) → ((row : ℕ) (content : Option (List ℤ)) → IsRowOf P (columns u) content → ShapedEffect columns (effect row content)) → ShapedEffect columns (touch_declared m u (declared accesses kind u number) effect)
      touched accesses kind u number effect shapes = by_found (declared accesses kind u number)
        where
          by_found : (found : Option Access) → ShapedEffect columns (touch_declared m u found effect)
          by_found None = tt
          by_found (Some access) = shapes access.key.row (m.rows u access.key.row) (shaped.rows u access.key.row)

      loaded : (u to column : ℕ) (content : Option (List ℤ)) → IsRowOf P (columns u) content → ShapedEffect columns (load_column m to column content)
      loaded u to column None shape = tt
      loaded u to column (Some row) shape = put_number to (slice_index_or row column (pos 0)) (number_at row column shape.1)

      stored : (u column from row : ℕ) (content : Option (List ℤ)) → IsRowOf P (columns u) content → ShapedEffect columns (store_column m u column from row content)
      stored u column from row None shape = tt
      stored u column from row (Some content) shape =
          let value = read_register m from in
          record {
            rows = put_row m.rows u row (Some (slice_set content column value)) shaped.rows (length-set content column value ∙ shape.0, All-set P content column value (number from) shape.1);
            registers = shaped.registers;
            outputs = shaped.outputs;
          }

      inserted : (u : ℕ) (from : List ℕ) (row : ℕ) (content : Option (List ℤ)) → length from ≡ columns u → ShapedEffect columns (insert_row m u from row content)
      inserted u from row None fit =
          record {
            rows = put_row m.rows u row (Some (map (read_register m) from)) shaped.rows (length-map from (read_register m) ∙ fit, numbers from);
            registers = shaped.registers;
            outputs = shaped.outputs;
          }
      inserted u from row (Some content) fit = tt

      deleted : (u row : ℕ) (content : Option (List ℤ)) → ShapedEffect columns (delete_row m u row content)
      deleted u row None = tt
      deleted u row (Some content) =
          record { rows = put_row m.rows u row None shaped.rows tt; registers = shaped.registers; outputs = shaped.outputs }

      checked : (test : Bool) → ShapedEffect columns (cond test (aborts CheckReason) (goes_on m 0))
      checked true = tt
      checked false = shaped

      performed : (accesses : List Access) (step : Step) → StepFits columns step → ShapedEffect columns (perform accesses step m)
      performed accesses (Const to value) fit = put_number to value (such value fit)
      performed accesses (Compute operation to left right) fit =
          put_fitting to (computed operation (read_register m left) (read_register m right))
      performed accesses (Has to u row) fit = touched accesses Read u (row_number m.registers row) (λ _ found. put m to (flag (is_some found))) (λ row content shape. put_number to (flag (is_some content)) (is_flag (is_some content)))
      performed accesses (Load to u row column) fit = touched accesses Read u (row_number m.registers row) (λ _ found. load_column m to column found) (λ row content shape. loaded u to column content shape)
      performed accesses (Store u row column from) fit = touched accesses Update u (row_number m.registers row) (λ number found. store_column m u column from number found) (λ row content shape. stored u column from row content shape)
      performed accesses (InsertStep u row from) fit = touched accesses Insert u (row_number m.registers row) (λ number found. insert_row m u from number found) (λ row content shape. inserted u from row content fit)
      performed accesses (DeleteStep u row) fit = touched accesses Delete u (row_number m.registers row) (λ number found. delete_row m u number found) (λ row content shape. deleted u row content)
      performed accesses (Check of) fit = checked (is_zero (read_register m of))
      performed accesses (Skip of steps) fit = shaped
      performed accesses (Out of) fit =
          record { rows = shaped.rows; registers = shaped.registers; outputs = All-append P m.outputs (read_register m of ∷ []) shaped.outputs (All-cons P (read_register m of) [] (number of) (All-nil P)) }

    after_shaped : (accesses : List Access) (number : ℕ) (steps : List Step) (effect : Effect) → ShapedEffect columns effect → ((passed : ℕ) (next : Machine) → IsShaped columns next → ShapedEnding columns (run_steps accesses steps (number + 1) passed next)) → ShapedEnding columns (after_step number effect (λ next passed. run_steps accesses steps (number + 1) passed next))
    after_shaped accesses at steps (goes_on next passed) shaped rest = rest passed next shaped
    after_shaped accesses at steps (aborts reason) shaped rest = tt
    after_shaped accesses at steps is_undeclared shaped rest = tt

    run_shaped : (accesses : List Access) (steps : List Step) (number passed : ℕ) (m : Machine) → All (StepFits columns) steps → IsShaped columns m → ShapedEnding columns (run_steps accesses steps number passed m)
    run_shaped accesses [] at passed m fit shaped = (shaped.rows, shaped.outputs)
    run_shaped accesses (step ∷ steps) at (suc passed) m fit shaped = run_shaped accesses steps (at + 1) passed m (All-tail (StepFits columns) step steps fit) shaped
    run_shaped accesses (step ∷ steps) at zero m fit shaped =
        after_shaped accesses at steps (perform accesses step m) (performed m shaped accesses step (All-head (StepFits columns) step steps fit))
        (λ passed next also. run_shaped accesses steps (at + 1) passed next (All-tail (StepFits columns) step steps fit) also)

    body_shaped : (form : Form) (rows : Rows) → FormFits columns form → Shaped columns rows → ShapedEnding columns (body rows form)
    body_shaped (Form.Create table width) rows fit shaped = (shaped, All-nil P)
    body_shaped (Form.Run accesses steps deed) rows fit shaped =
        run_shaped accesses steps 0 0 (record { rows = rows; registers = replicate 16 (pos 0); outputs = [] }) fit (record { rows = shaped; registers = zeros 16; outputs = All-nil P })
    body_shaped (Form.Deed deed) rows fit shaped = (shaped, All-nil P)

    -- a place leaves rows of the right shape
    module _ (own : List ℕ) (place : ℕ) (world : World) (statement : Statement) (fit : FormFits columns statement.form) (shaped : Shaped columns world.rows) where
      changed_shaped : (deeds : List Deed) (ending : Ending) → body world.rows statement.form ≡ ending → Shaped columns (changed world deeds ending).rows
      changed_shaped deeds (completed rows outputs) ends = (subst (ShapedEnding columns) ends (body_shaped statement.form world.rows fit shaped)).0
      changed_shaped deeds (aborted step reason) ends = shaped
      changed_shaped deeds (undeclared step) ends = shaped

      judged_shaped : (lack : Option Need) → Shaped columns (judged own place world statement lack).1.rows
      judged_shaped (Some need) = shaped
      judged_shaped None = changed_shaped (deeds_of place statement.user statement.form) (body world.rows statement.form) refl

      form_shaped : (form : Form) → Shaped columns (step_form own place world statement form).1.rows
      form_shaped (Form.Create table width) = shaped
      form_shaped (Form.Run accesses steps deed) = judged_shaped (missing own world statement.user (Form.Run accesses steps deed))
      form_shaped (Form.Deed deed) = judged_shaped (missing own world statement.user (Form.Deed deed))

    places_shaped : (own : List ℕ) (place : ℕ) (world : World) (statements : List Statement) → All (λ (statement : Statement). FormFits columns statement.form) statements → Shaped columns world.rows → Shaped columns (world_after own place world statements).rows
    places_shaped own place world [] fit shaped = shaped
    places_shaped own place world (statement ∷ statements) fit shaped =
        places_shaped own (place + 1) (at_place own place world statement).1 statements (All-tail (λ (one : Statement). FormFits columns one.form) statement statements fit)
        (form_shaped own place world statement (All-head (λ (one : Statement). FormFits columns one.form) statement statements fit) shaped statement.form)

pub keeps_shape : KeepsShape
keeps_shape columns form rows after outputs fit shaped ends =
    subst (ShapedEnding IsNumber refl refl (λ value is. is) columns) ends (body_shaped IsNumber refl refl (λ value is. is) columns form rows fit shaped)

pub logs_have_shape : LogsHaveShape
logs_have_shape columns log place fit =
    places_shaped IsNumber refl refl (λ value is. is) columns (owners log) 0 empty_world (take place log) (All-take (λ (one : Statement). FormFits columns one.form) place log fit) (λ t n. tt)

-- where numbers don't matter
abbrev Any : ℤ → Type 0
Any value = Unit {0}

to_columns : (columns : ℕ) (content : Option (List ℤ)) → IsRowOf Any columns content → HasColumns columns content
to_columns columns None shape = tt
to_columns columns (Some row) shape = shape.0

from_columns : (columns : ℕ) (content : Option (List ℤ)) → HasColumns columns content → IsRowOf Any columns content
from_columns columns None shape = tt
from_columns columns (Some row) shape = (shape, λ k d below. tt)

pub keeps_columns : KeepsColumns
keeps_columns columns form rows after outputs fit shaped ends t n =
    let shapes = subst (ShapedEnding Any tt tt (λ value is. tt) columns) ends (body_shaped Any tt tt (λ value is. tt) columns form rows fit (λ u s. from_columns (columns u) (rows u s) (shaped u s))) in
    to_columns (columns t) (after t n) (shapes.0 t n)
