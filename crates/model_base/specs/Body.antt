-- What the steps of a body mean: an ordinary program over one map of all rows and a few registers. A step that
-- touches a row is first judged by what its statement declares, and only then by whether the row is there.
use Rattle.std.specs.Prelude.{◌==◌, ◌&&◌, ℕ, zero, suc, ◌+◌, ◌^◌, Bool, false, Option, Some, None, List, [], ◌∷◌, ◌++◌, map, replicate, slice_index_or, slice_set, if◌then◌else◌, nat_lt, is_some, ℤ, pos, negsuc, ◌+ℤ◌, ◌-ℤ◌, ◌*ℤ◌, int_lt}
use Rattle.std.specs.List.{find}
use Rattle.std.specs.Ordering.{int_eq}
use Rattle.model_base.specs.Rows.{Rows, with_row}
use Rattle.model_base.specs.Privileges.{has_kind}
use Rattle.model_base.specs.declared.limits.TheConstants.{MOST_REGISTERS}
use Rattle.model_base.specs.declared.deed.Kind.{Kind}
use Rattle.model_base.specs.declared.deed.Kind.TheVariants.{Read, Insert, Update, Delete}
use Rattle.model_base.specs.declared.statement.Access.{Access}
use Rattle.model_base.specs.declared.statement.RowName.{RowName}
use Rattle.model_base.specs.declared.statement.RowName.TheVariants.{Number, Held}
use Rattle.model_base.specs.declared.statement.Operation.{Operation}
use Rattle.model_base.specs.declared.statement.Operation.TheVariants.{Add, Sub, Mul, Less, Same}
use Rattle.model_base.specs.declared.statement.Step.{Step}
use Rattle.model_base.specs.declared.outcome.Reason.{Reason}
use Rattle.model_base.specs.declared.outcome.Reason.TheVariants.{NoRow, RowExists, Overflow, Check}

-- what a body works on
pub record Machine : Type 0 where
  pub rows : Rows
  pub registers : List ℤ
  pub outputs : List ℤ

-- what one step results in: it goes on, passing over some steps, or it ends the body
pub data Effect : Type 0 where
  goes_on : Machine → ℕ → Effect
  aborts : Reason → Effect
  is_undeclared : Effect

-- how a body ends: with a new map and outputs, or at a step
pub data Ending : Type 0 where
  completed : Rows → List ℤ → Ending
  aborted : ℕ → Reason → Ending
  undeclared : ℕ → Ending

-- the number in a register; at first it is 0
abbrev pub read_register : Machine → ℕ → ℤ
read_register machine register = slice_index_or machine.registers register (pos 0)

-- the same machine with this number in the register
abbrev pub with_register : Machine → ℕ → ℤ → Machine
with_register machine register value = record machine { registers = slice_set machine.registers register value }

-- the number of a row, as a step gives it
abbrev pub row_number : List ℤ → RowName → ℤ
row_number registers (Number number) = pos number
row_number registers (Held register) = slice_index_or registers register (pos 0)

-- whether the access is to the table's row of this number
abbrev pub is_of : ℕ → ℤ → Access → Bool
is_of table number access = (access.key.table == table) && int_eq (pos access.key.row) number

-- the access, if it declares this kind
abbrev pub of_kind : Kind → Option Access → Option Access
of_kind kind None = None
of_kind kind (Some access) = if has_kind access.kinds kind then Some access else None

-- the access that declares this kind for the table's row of this number, if there is one
abbrev pub declared : List Access → Kind → ℕ → ℤ → Option Access
declared accesses kind table number = of_kind kind (find (is_of table number) accesses)

-- a step that touches a row: it is undeclared, or goes on by what it does with that row
abbrev pub touch_declared : Machine → ℕ → Option Access → (ℕ → Option (List ℤ) → Effect) → Effect
touch_declared machine table None effect = is_undeclared
touch_declared machine table (Some access) effect = effect access.key.row (machine.rows table access.key.row)

-- the declared row that a step names, and what the step does with it
abbrev pub touch : List Access → Machine → Kind → ℕ → RowName → (ℕ → Option (List ℤ) → Effect) → Effect
touch accesses machine kind table name effect =
    touch_declared machine table (declared accesses kind table (row_number machine.registers name)) effect

-- whether the number is at least -2^63 and below 2^63
abbrev pub fits_64_bits : ℤ → Bool
fits_64_bits (pos n) = nat_lt n (2 ^ 63)
fits_64_bits (negsuc n) = nat_lt n (2 ^ 63)

-- a number is written into a register
abbrev pub put : Machine → ℕ → ℤ → Effect
put machine register value = goes_on (with_register machine register value) 0

-- what was computed is written there if it fits
abbrev pub put_fitting : Machine → ℕ → ℤ → Effect
put_fitting machine register value = if fits_64_bits value then put machine register value else aborts Overflow

-- 1 for what holds, 0 for what doesn't
abbrev pub flag : Bool → ℤ
flag b = if b then pos 1 else pos 0

-- what an operation makes of two numbers
abbrev pub computed : Operation → ℤ → ℤ → ℤ
computed Add left right = left +ℤ right
computed Sub left right = left -ℤ right
computed Mul left right = left *ℤ right
computed Less left right = flag (int_lt left right)
computed Same left right = flag (int_eq left right)

-- whether the number is 0
abbrev pub is_zero : ℤ → Bool
is_zero (pos n) = n == 0
is_zero (negsuc _) = false

-- a column of a row that is there is written into a register
abbrev pub load_column : Machine → ℕ → ℕ → Option (List ℤ) → Effect
load_column machine to column None = aborts NoRow
load_column machine to column (Some row) = put machine to (slice_index_or row column (pos 0))

-- a column of a row that is there becomes the number of a register
abbrev pub store_column : Machine → ℕ → ℕ → ℕ → ℕ → Option (List ℤ) → Effect
store_column machine table column from row None = aborts NoRow
store_column machine table column from row (Some columns) =
    goes_on (record machine { rows = with_row machine.rows table row (Some (slice_set columns column (read_register machine from))) }) 0

-- a row that isn't there becomes the numbers of some registers
abbrev pub insert_row : Machine → ℕ → List ℕ → ℕ → Option (List ℤ) → Effect
insert_row machine table from row None =
    goes_on (record machine { rows = with_row machine.rows table row (Some (map (read_register machine) from)) }) 0
insert_row machine table from row (Some _) = aborts RowExists

-- a row that is there goes
abbrev pub delete_row : Machine → ℕ → ℕ → Option (List ℤ) → Effect
delete_row machine table row None = aborts NoRow
delete_row machine table row (Some _) = goes_on (record machine { rows = with_row machine.rows table row None }) 0

-- what each step does
abbrev pub perform : List Access → Step → Machine → Effect
perform accesses (Step.Const to value) m = put m to value
perform accesses (Step.Compute operation to left right) m =
    put_fitting m to (computed operation (read_register m left) (read_register m right))
perform accesses (Step.Has to table row) m = touch accesses m Read table row (λ _ found. put m to (flag (is_some found)))
perform accesses (Step.Load to table row column) m = touch accesses m Read table row (λ _ found. load_column m to column found)
perform accesses (Step.Store table row column from) m = touch accesses m Update table row
    (λ number found. store_column m table column from number found)
perform accesses (Step.Insert table row from) m = touch accesses m Insert table row (λ number found. insert_row m table from number found)
perform accesses (Step.Delete table row) m = touch accesses m Delete table row (λ number found. delete_row m table number found)
perform accesses (Step.Check of) m = if is_zero (read_register m of) then aborts Check else goes_on m 0
perform accesses (Step.Skip of steps) m = goes_on m (if is_zero (read_register m of) then 0 else steps)
perform accesses (Step.Out of) m = goes_on (record m { outputs = m.outputs ++ read_register m of ∷ [] }) 0

-- an effect ends the body at its step, or the rest of the body goes on
abbrev pub after_step : ℕ → Effect → (Machine → ℕ → Ending) → Ending
after_step number (goes_on m passed) rest = rest m passed
after_step number (aborts reason) rest = aborted number reason
after_step number is_undeclared rest = undeclared number

-- the steps in order from the one of this number, of which the first few may be passed over
abbrev pub run_steps : List Access → List Step → ℕ → ℕ → Machine → Ending
run_steps accesses [] number passed m = completed m.rows m.outputs
run_steps accesses (step ∷ steps) number (suc passed) m = run_steps accesses steps (number + 1) passed m
run_steps accesses (step ∷ steps) number zero m =
    after_step number (perform accesses step m) (λ next passed. run_steps accesses steps (number + 1) passed next)

-- what a body means over a map of all rows
abbrev pub meaning : List Step → List Access → Rows → Ending
meaning steps accesses rows =
    run_steps accesses steps 0 0 (record { rows = rows; registers = replicate MOST_REGISTERS (pos 0); outputs = [] })
