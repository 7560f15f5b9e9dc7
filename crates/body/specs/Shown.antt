-- The rows of a window, as a part of a map of all rows.
use Rattle.std.specs.Prelude.{◌≡◌, ℤ, Option, List, [], ◌∷◌, length, map, take}
use Rattle.model_base.specs.declared.statement.Access.{Access}
use Rattle.model_base.specs.Rows.{Rows, with_row}
use Rattle.body.specs.declared.window.Window.{Window}

-- the window has, at the place of each access, the row that the map has at its key
abbrev pub WindowShows : List Access → Window → Rows → Type 0
WindowShows accesses window rows =
    take (length accesses) window.rows ≡ map (λ (access : Access). rows access.key.table access.key.row) accesses

-- the same map, with the rows at the keys of the accesses taken from a list
abbrev pub with_rows : List Access → List (Option (List ℤ)) → Rows → Rows
with_rows [] contents rows = rows
with_rows (access ∷ accesses) [] rows = rows
with_rows (access ∷ accesses) (content ∷ contents) rows =
    with_row (with_rows accesses contents rows) access.key.table access.key.row content
