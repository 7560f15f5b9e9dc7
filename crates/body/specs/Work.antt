-- What a body works on, for each map of the rows that the window does not hold.
use Rattle.std.specs.Prelude.{◌≡◌, ℕ, ℤ, Bool, true, false, Option, Some, None, List, [], ◌∷◌, zero, suc, if◌then◌else◌}
use Rattle.model_base.specs.declared.deed.Kind.{Kind}
use Rattle.model_base.specs.declared.statement.Access.{Access}
use Rattle.model_base.specs.declared.statement.Step.{Step}
use Rattle.model_base.specs.Rows.{Rows}
use Rattle.model_base.specs.Body.{Machine, Effect, goes_on, aborts, is_undeclared, declared, fits_64_bits, is_of, perform}
use Rattle.body.specs.declared.steps.StepEnd.{StepEnd}
use Rattle.body.specs.declared.steps.StepEnd.TheVariants.{GoesOn, Aborts, Undeclared}
use Rattle.body.specs.declared.window.Window.{Window}
use Rattle.body.specs.Shown.{with_rows}

-- the machine whose rows are those of the window, and elsewhere those of the map
abbrev pub seen : List Access → Rows → Window → List ℤ → Machine
seen accesses rows window registers =
    record { rows = with_rows accesses window.rows rows; registers = registers; outputs = window.outputs }

-- the effect of a step that ended so, with what the machine is then
abbrev pub effect_of : StepEnd → Machine → Effect
effect_of (GoesOn passed) machine = goes_on machine passed
effect_of (Aborts reason) machine = aborts reason
effect_of Undeclared machine = is_undeclared

-- whatever rows the map has, the step's effect on window and registers is its effect on the machine that is seen there
abbrev pub Performs : List Access → Step → Window → List ℤ → StepEnd → Window → List ℤ → Type 0
Performs accesses step window registers end window' registers' =
    (rows : Rows) → effect_of end (seen accesses rows window' registers') ≡ perform accesses step (seen accesses rows window registers)

-- the number, if it fits 64 bits
abbrev pub if_fits : ℤ → Option ℤ
if_fits value = if fits_64_bits value then Some value else None

-- the access is the first that passes the test, and is at this place
abbrev pub IsFirstAccess : (Access → Bool) → List Access → ℕ → Access → Type 0
IsFirstAccess test [] place found = ⊥
IsFirstAccess test (access ∷ accesses) zero found = (access ≡ found) × (test access ≡ true)
IsFirstAccess test (access ∷ accesses) (suc place) found = (test access ≡ false) × IsFirstAccess test accesses place found

-- the place of the access that declares this kind for the table's row of this number
abbrev pub IsPlace : List Access → Kind → ℕ → ℤ → Option ℕ → Type 0
IsPlace accesses kind table number None = declared accesses kind table number ≡ None
IsPlace accesses kind table number (Some place) =
    (found : Access) × ((declared accesses kind table number ≡ Some found) × IsFirstAccess (is_of table number) accesses place found)
