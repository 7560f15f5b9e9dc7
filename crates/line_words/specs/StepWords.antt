-- The words that name steps.
use Rattle.std.specs.Prelude.{ℕ, List, Option, Some, None, bytes_eq, codes, if◌then◌else◌}
use Rattle.model_base.specs.declared.statement.Operation.{Operation}
use Rattle.model_base.specs.declared.statement.Operation.TheVariants.{Add, Sub, Mul, Less, Same}
use Rattle.line_words.specs.declared.step_name.StepName.{StepName}
use Rattle.line_words.specs.declared.step_name.StepName.TheVariants.{Const, Compute, Has, Load, Store, Insert, Delete, Check, Skip, Out}

-- the word of an operation
abbrev pub operation_word : Operation → List ℕ
operation_word Add = codes "ADD"
operation_word Sub = codes "SUB"
operation_word Mul = codes "MUL"
operation_word Less = codes "LESS"
operation_word Same = codes "SAME"

-- the word that names a step
abbrev pub step_word : StepName → List ℕ
step_word Const = codes "CONST"
step_word (Compute operation) = operation_word operation
step_word Has = codes "HAS"
step_word Load = codes "LOAD"
step_word Store = codes "STORE"
step_word Insert = codes "INSERT"
step_word Delete = codes "DELETE"
step_word Check = codes "CHECK"
step_word Skip = codes "SKIP"
step_word Out = codes "OUT"

-- the step that a word names
abbrev pub step_name : List ℕ → Option StepName
step_name w =
    if bytes_eq w (codes "CONST") then Some Const
    else if bytes_eq w (codes "ADD") then Some (Compute Add)
    else if bytes_eq w (codes "SUB") then Some (Compute Sub)
    else if bytes_eq w (codes "MUL") then Some (Compute Mul)
    else if bytes_eq w (codes "LESS") then Some (Compute Less)
    else if bytes_eq w (codes "SAME") then Some (Compute Same)
    else if bytes_eq w (codes "HAS") then Some Has
    else if bytes_eq w (codes "LOAD") then Some Load
    else if bytes_eq w (codes "STORE") then Some Store
    else if bytes_eq w (codes "INSERT") then Some Insert
    else if bytes_eq w (codes "DELETE") then Some Delete
    else if bytes_eq w (codes "CHECK") then Some Check
    else if bytes_eq w (codes "SKIP") then Some Skip
    else if bytes_eq w (codes "OUT") then Some Out
    else None
