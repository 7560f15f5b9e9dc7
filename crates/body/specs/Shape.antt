-- Rows of the right shape: as many numbers as their tables have columns, each of 64 bits.
use Rattle.std.specs.Prelude.{◌≡◌, ℕ, ℤ, true, Option, Some, None, List, All, length}
use Rattle.model_base.specs.declared.statement.Form.{Form}
use Rattle.model_base.specs.declared.statement.Statement.{Statement}
use Rattle.model_base.specs.declared.statement.Step.{Step}
use Rattle.model_base.specs.Body.{completed, fits_64_bits}
use Rattle.model_base.specs.Outcomes.{body, rows_before}
use Rattle.model_base.specs.Rows.{Rows}

-- the number fits 64 bits
abbrev pub IsNumber : ℤ → Type 0
IsNumber value = fits_64_bits value ≡ true

-- a row that is there has this many columns, and each of its numbers is such
abbrev pub IsRowOf : (ℤ → Type 0) → ℕ → Option (List ℤ) → Type 0
IsRowOf IsSuch columns None = Unit {0}
IsRowOf IsSuch columns (Some row) = (length row ≡ columns) × All IsSuch row

-- a row that is there has this many columns, whatever its numbers
abbrev pub HasColumns : ℕ → Option (List ℤ) → Type 0
HasColumns columns None = Unit {0}
HasColumns columns (Some row) = length row ≡ columns

-- each row has the columns of its table
abbrev pub HaveColumns : (ℕ → ℕ) → Rows → Type 0
HaveColumns columns rows = (table row : ℕ) → HasColumns (columns table) (rows table row)

-- each row has the columns of its table, each with a number of 64 bits
abbrev pub HaveShape : (ℕ → ℕ) → Rows → Type 0
HaveShape columns rows = (table row : ℕ) → IsRowOf IsNumber (columns table) (rows table row)

-- a constant has 64 bits, and an inserted row has the columns of its table
abbrev pub StepFits : (ℕ → ℕ) → Step → Type 0
StepFits columns (Step.Const to value) = IsNumber value
StepFits columns (Step.Insert table row from) = length from ≡ columns table
StepFits columns _ = Unit {0}

-- so does each step of a form
abbrev pub FormFits : (ℕ → ℕ) → Form → Type 0
FormFits columns (Form.Create table width) = Unit {0}
FormFits columns (Form.Run accesses steps deed) = All (StepFits columns) steps
FormFits columns (Form.Deed deed) = Unit {0}

-- a completed body that fits the columns leaves rows of the right shape, and its outputs have 64 bits
abbrev pub KeepsShape : Type 0
KeepsShape =
    (columns : ℕ → ℕ) (form : Form) (rows after : Rows) (outputs : List ℤ)
    → FormFits columns form → HaveShape columns rows → body rows form ≡ completed after outputs
    → HaveShape columns after × All IsNumber outputs

-- a completed body that fits the columns leaves rows of the right columns, whatever their numbers
abbrev pub KeepsColumns : Type 0
KeepsColumns =
    (columns : ℕ → ℕ) (form : Form) (rows after : Rows) (outputs : List ℤ)
    → FormFits columns form → HaveColumns columns rows → body rows form ≡ completed after outputs → HaveColumns columns after

-- before each place of a log whose statements fit the columns, rows have the right shape
abbrev pub LogsHaveShape : Type 0
LogsHaveShape =
    (columns : ℕ → ℕ) (log : List Statement) (place : ℕ)
    → All (λ (statement : Statement). FormFits columns statement.form) log → HaveShape columns (rows_before log place)
