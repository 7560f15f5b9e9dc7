-- What a body leaves alone, and what its window shows afterwards.
use Rattle.std.specs.Prelude.{◌≡◌, ℕ, ℤ, pos, ◌≤◌, false, is_some, true, Option, None, List, [], ◌∷◌, length, map, take}
use Rattle.std.specs.List.{find}
use Rattle.model_base.specs.declared.statement.Access.{Access}
use Rattle.model_base.specs.declared.statement.Form.{Form}
use Rattle.model_base.specs.declared.statement.Statement.{Statement}
use Rattle.model_base.specs.Rows.{Rows}
use Rattle.model_base.specs.Body.{Ending, aborted, completed, is_of, undeclared}
use Rattle.model_base.specs.Outcomes.{body}
use Rattle.model_base.specs.References.{declares_write}
use Rattle.model_base.specs.Versions.{accesses_of}
use Rattle.body.specs.Shown.{with_rows}

-- no access is to the row
abbrev pub IsOther : List Access → ℕ → ℕ → Type 0
IsOther accesses table row = find (is_of table (pos row)) accesses ≡ None

-- no two accesses are to one row
abbrev pub AreApart : List Access → Type 0
AreApart [] = Unit {0}
AreApart (access ∷ accesses) = IsOther accesses access.key.table access.key.row × AreApart accesses

-- a completed body leaves each row alone that its statement does not declare
abbrev pub LeavesOthers : Type 0
LeavesOthers =
    (form : Form) (rows after : Rows) (outputs : List ℤ) (table row : ℕ)
    → body rows form ≡ completed after outputs → IsOther (accesses_of form) table row → after table row ≡ rows table row

-- a completed body leaves each row alone for which its statement declares no kind that changes rows
abbrev pub LeavesUnwritten : Type 0
LeavesUnwritten =
    (statement : Statement) (rows after : Rows) (outputs : List ℤ) (table row : ℕ)
    → body rows statement.form ≡ completed after outputs → declares_write table row statement ≡ false
    → after table row ≡ rows table row

-- the two maps have the same row at each key that is declared
abbrev pub AgreeAt : List Access → Rows → Rows → Type 0
AgreeAt accesses rows others =
    (table row : ℕ) → is_some (find (is_of table (pos row)) accesses) ≡ true → rows table row ≡ others table row

-- the two bodies end in the same way: if they complete, with the same outputs and with the same rows at the declared keys
abbrev pub SameEnding : List Access → Ending → Ending → Type 0
SameEnding accesses (completed rows outputs) (completed others more) = AgreeAt accesses rows others × (outputs ≡ more)
SameEnding accesses (aborted step reason) (aborted other why) = (step ≡ other) × (reason ≡ why)
SameEnding accesses (undeclared step) (undeclared other) = step ≡ other
SameEnding accesses _ _ = ⊥

-- what a body results in depends on no row but those that its statement declares
abbrev pub DependsOnDeclared : Type 0
DependsOnDeclared =
    (form : Form) (rows others : Rows)
    → AgreeAt (accesses_of form) rows others → SameEnding (accesses_of form) (body rows form) (body others form)

-- a map with the rows of a window at the declared keys has the window's row at each of them
abbrev pub ShowsRows : Type 0
ShowsRows =
    (accesses : List Access) (contents : List (Option (List ℤ))) (rows : Rows)
    → AreApart accesses → length accesses ≤ length contents
    → take (length accesses) contents ≡ map (λ (access : Access). with_rows accesses contents rows access.key.table access.key.row) accesses

-- and at every other key it has the row that it had
abbrev pub KeepsOthers : Type 0
KeepsOthers =
    (accesses : List Access) (contents : List (Option (List ℤ))) (rows : Rows) (table row : ℕ)
    → IsOther accesses table row → with_rows accesses contents rows table row ≡ rows table row
