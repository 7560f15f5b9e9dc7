-- What a body leaves in a window, and what its statement's header and cells tell of it.
use Rattle.std.proofs.Common.{◌≡◌, ◌≤◌, ℕ, ℤ, List, None, length, refl, arith}
use Rattle.model_base.specs.declared.outcome.DeedDone.{DeedDone}
use Rattle.model_base.specs.declared.outcome.Outcome.{Outcome}
use Rattle.model_base.specs.declared.statement.Form.{Form}
use Rattle.model_base.specs.declared.statement.Statement.{Statement}
use Rattle.model_base.specs.Body.{completed}
use Rattle.model_base.specs.Outcomes.{World, body, judged}
use Rattle.model_base.specs.Rows.{Rows}
use Rattle.model_base.specs.Versions.{accesses_of}
use Rattle.body.specs.declared.window.Window.{Window}
use Rattle.body.specs.Laws.{AreApart}
use Rattle.body.specs.Premises.{HasFittingBody}
use Rattle.body.specs.Shown.{WindowShows, with_rows}
use Rattle.body.proofs.Frame.{shows_rows}
use Rattle.body.proofs.Shapes.{keeps_columns}
use Rattle.evaluation.specs.Judged.{KeepsShaped, Tells}

-- a window has a place for each access
pub few_accesses : (form : Form) → HasFittingBody form → length (accesses_of form) ≤ 16
few_accesses (Form.Create table columns) fits = omega arith
few_accesses (Form.Run accesses steps deed) fits = fits.places
few_accesses (Form.Deed deed) fits = omega arith

module _ (statement : Statement) (window after : Window) (fits : HasFittingBody statement.form) (sixteen : length after.rows ≡ 16)
    (apart : AreApart (accesses_of statement.form)) (outputs : List ℤ)
    (ends : (rows : Rows) → WindowShows (accesses_of statement.form) window rows
    → body rows statement.form ≡ completed (with_rows (accesses_of statement.form) after.rows rows) outputs) where
  -- after a completed body the window shows the new rows
  shown : (rows : Rows) → WindowShows (accesses_of statement.form) after (with_rows (accesses_of statement.form) after.rows rows)
  shown rows =
      let few : length (accesses_of statement.form) ≤ 16 = few_accesses statement.form fits in
      shows_rows (accesses_of statement.form) after.rows rows apart (omega arith)

  pub completed_tells : (owners : List ℕ) (place : ℕ) (world : World) → WindowShows (accesses_of statement.form) window world.rows
      → Tells statement (judged owners place world statement None) (Outcome.Done outputs DeedDone.None) after
  completed_tells owners place world shows = rw (ends world.rows shows) (record { told = refl; rows = shown world.rows })

  pub completed_keeps : KeepsShaped statement window after
  completed_keeps columns fitting shaped = record {
    rows = with_rows (accesses_of statement.form) after.rows shaped.rows;
    shows = shown shaped.rows;
    shape = keeps_columns columns statement.form shaped.rows _ outputs fitting shaped.shape (ends shaped.rows shaped.shows);
  }
