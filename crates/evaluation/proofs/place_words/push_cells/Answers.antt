use Rattle.std.proofs.Common.{◌≡◌, ◌≤◌, ◌++◌, sym, ◌∙◌, arith}
use Rattle.own_words.specs.Words.{row_words}
use Rattle.evaluation.specs.Answering.{columns_in}
use Rattle.evaluation.proofs.Cells.{columns_narrow, longer_by_cell, row_shaped, row_shown, with_cell, without_cell}
use Rattle.evaluation.proofs.place_words.push_cells.Goals as goal
use Rattle.evaluation.proofs.place_words.push_cells.Goals.{then-is_writing, else-is_writing}

pub loop-place-preserved : goal.loop-place-preserved
loop-place-preserved c =
    let accesses = c.args.accesses.now in
    let access = c.index-accesses-place.result in
    let columns = columns_in c.args.columns.now in
    let table = access.key.table in
    elim c.if-is_writing.branch [
      | then-is_writing w ↦
          let words : c.if-is_writing.words ≡ c.loop-place.words ++ row_words (columns table) w.row.result.now =
          w.words-is ∙ (rw (w.columns_in-count.ensures.value, w.as_ref.ensures.value) at w.push_row.ensures) in
          let narrow : columns table ≤ 8 =
          columns_narrow c.args.columns.now accesses c.loop-place.place access c.requires.narrow c.requires.tables (omega arith) c.index-accesses-place.is in
          record {
            few =
                let more = longer_by_cell (columns table) w.row.result.now c.loop-place.words
                (rw w.row.ensures.row (row_shaped columns accesses c.args.window.now c.loop-place.place access c.requires.shaped (omega arith) c.index-accesses-place.is)) narrow in
                rw words (omega (arith, more));
            cells = λ rows shows.
                words
                ∙ with_cell columns accesses rows c.loop-place.place access (omega arith) c.index-accesses-place.is c.args.words.now c.loop-place.words (c.loop-place.invariant.cells rows shows)
                w.row.result.now (sym c.is_writing.ensures ∙ w.if-is_writing.true)
                (w.row.ensures.row ∙ row_shown accesses c.args.window.now rows c.loop-place.place access shows (omega arith) c.index-accesses-place.is);
          }
      | else-is_writing w ↦ record {
        few = rw w.words-is (omega arith);
        cells = λ rows shows.
            w.words-is
            ∙ without_cell columns accesses rows c.loop-place.place access (omega arith) c.index-accesses-place.is c.args.words.now c.loop-place.words (c.loop-place.invariant.cells rows shows)
            (sym c.is_writing.ensures ∙ w.if-is_writing.false);
      }
    ]
