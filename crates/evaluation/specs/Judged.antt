-- What a statement results in, as far as a place's own words give it.
use Rattle.std.specs.Prelude.{◌≡◌, ℕ, List, filter}
use Rattle.std.specs.List.{flat_map}
use Rattle.model_base.specs.declared.deed.Deed.{Deed}
use Rattle.model_base.specs.declared.outcome.Outcome.{Outcome}
use Rattle.model_base.specs.declared.statement.Access.{Access}
use Rattle.model_base.specs.declared.statement.Statement.{Statement}
use Rattle.model_base.specs.Outcomes.{World, at_place}
use Rattle.model_base.specs.Rows.{Rows}
use Rattle.model_base.specs.Versions.{accesses_of, is_writing}
use Rattle.body.specs.declared.window.Window.{Window}
use Rattle.body.specs.Shape.{FormFits}
use Rattle.body.specs.Shown.{WindowShows}
use Rattle.grants_base.specs.View.{ShowsDeeds, View}
use Rattle.own_words.specs.Words.{header, row_words}
use Rattle.evaluation.specs.Answering.{IsShaped}

-- the version cells of the accesses that may change their row, in order, by the rows after the place
abbrev pub cells_at : (ℕ → ℕ) → List Access → Rows → List ℕ
cells_at columns accesses rows =
    flat_map (λ (access : Access). row_words (columns access.key.table) (rows access.key.table access.key.row)) (filter is_writing accesses)

-- whatever owners, deeds and rows the view and the window show, what the statement results in by them at the view's place is such
abbrev pub ForShown : Statement → Window → View → (Outcome × World → Type 0) → Type 0
ForShown statement window view IsSuch =
    (owners : List ℕ) (deeds : List Deed) (rows : Rows)
    → ShowsDeeds view owners deeds → WindowShows (accesses_of statement.form) window rows
    → IsSuch (at_place owners view.place (record { rows = rows; deeds = deeds }) statement)

-- the header of this outcome is that of the statement's, and the window afterwards shows the rows after the place. What the statement's
-- deed resulted in isn't in the header
pub record Tells (statement : Statement) (result : Outcome × World) (outcome : Outcome) (after : Window) : Type 0 where
  pub told : header statement.form outcome ≡ header statement.form result.0
  pub rows : WindowShows (accesses_of statement.form) after result.1.rows

-- a window in which each row has the columns of its table is followed by such a window
abbrev pub KeepsShaped : Statement → Window → Window → Type 0
KeepsShaped statement window after =
    (columns : ℕ → ℕ) → FormFits columns statement.form → IsShaped columns (accesses_of statement.form) window
    → IsShaped columns (accesses_of statement.form) after
