use Rattle.std.proofs.Common.{◌≡◌, ◌+◌, ◌*◌, ◌≤◌, ◌++◌, take, length}
use Rattle.model_base.specs.Rows.{Rows}
use Rattle.body.specs.Shown.{WindowShows}
use Rattle.evaluation.specs.Answering.{columns_in}
use Rattle.evaluation.specs.Judged.{cells_at}
use Rattle.evaluation.proofs.place_words.push_cells.Given as goal

-- the cells of the accesses so far are after the other words, each with at most nine words
abbrev pub invariant-loop-place : goal.invariant-loop-place
invariant-loop-place l = record {
  few : length l.words ≤ 12 + 9 * l.place;
  cells : (rows : Rows) → WindowShows l.accesses l.window rows
      → l.words ≡ l.initial.words ++ cells_at (columns_in l.columns) (take l.place l.accesses) rows;
}
