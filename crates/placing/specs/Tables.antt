-- The tables of a statement, as they are met.
use Rattle.std.specs.Prelude.{◌==◌, ◌||◌, ◌++◌, ℕ, Bool, List, [], ◌∷◌, fold, if◌then◌else◌}
use Rattle.std.specs.List.{list_any}
use Rattle.model_base.specs.declared.statement.Access.{Access}

-- whether the access needs anything
abbrev pub has_need : Access → Bool
has_need access = access.kinds.read || access.kinds.insert || access.kinds.update || access.kinds.delete

-- the numbers with one more after them, if it isn't there
abbrev pub with_number : List ℕ → ℕ → List ℕ
with_number numbers number = if list_any (λ other. other == number) numbers then numbers else numbers ++ number ∷ []

-- the numbers with more after them, each that isn't there
abbrev pub with_numbers : List ℕ → List ℕ → List ℕ
with_numbers numbers more = fold with_number numbers more
