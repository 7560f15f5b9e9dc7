use Rattle.std.proofs.Common.{◌≡◌, ◌≤◌, ◌+◌, suc, false, List, drop, map, refl, sym, ap, ◌∙◌, arith}
use Rattle.std.proofs.lemmas.List.{drop-drop}
use Rattle.model_base.specs.declared.statement.Access.{Access as Declared}
use Rattle.own_words.specs.Words.{outputs_of}
use Rattle.bohm_core_base.specs.Batch.{cell_of, cells_length, is_key}
use Rattle.bohm_core_base.specs.Serial.{serial_words}
use Rattle.log_batch.specs.Shown.{access_of}
use Rattle.log_batch.specs.Supplied.{batch_of}
use Rattle.log_batch.proofs.OwnLength.{length_at}
use Rattle.evaluation.proofs.ShownCells.{cell_at, cell_later, cell_read, length_later, length_read}
use Rattle.evaluation.proofs.rows.row_by_source.Goals as goal
use Rattle.evaluation.proofs.rows.row_by_source.Goals.{then-is_writing+else-eq, else-is_writing}

pub loop-access-init : goal.loop-access-init
loop-access-init g c =
    let ranged = c.args.batch.now in
    let batch = batch_of ranged in
    let index = c.args.index in
    let statement = c.args.statement.now in
    let items = c.accesses-access-items.result.now in
    let header = 4 + outputs_of statement.form in
    let words = serial_words batch index in
    let number = c.header_length-number.ensures.value in
    record {
      source = refl;
      kept = refl;
      few = c.header_length-number.ensures.few;
      room =
          ap (λ first. first + cells_length batch.columns (map access_of items)) number
          ∙ ap (λ (accesses : List Declared). header + cells_length batch.columns (map access_of accesses)) c.accesses-access-items.ensures
          ∙ sym (length_at ranged index statement c.requires.at);
      rest =
          ap (λ first. cell_of batch.columns (map access_of items) (drop first words) c.args.key) number
          ∙ ap (λ (accesses : List Declared). cell_of batch.columns (map access_of accesses) (drop header words) c.args.key) c.accesses-access-items.ensures
          ∙ sym (cell_at ranged index statement words c.args.key c.requires.at);
    }

pub loop-access-preserved : goal.loop-access-preserved
loop-access-preserved g c =
    let batch = batch_of c.args.batch.now in
    let columns = batch.columns in
    let accesses = c.accesses-access-items.result.now in
    let at = c.loop-access.access-index in
    let access = c.access-item.result in
    let key = c.args.key in
    let below = c.loop-access-test.true in
    let is = c.access-item.is in
    let words = serial_words batch c.args.index in
    let left = map access_of (drop (at + 1) accesses) in
    elim c.if-is_writing.branch [
      | then-is_writing+else-eq w ↦
          let writes = sym c.is_writing.ensures ∙ w.if-is_writing.true in
          let other : is_key access.key key ≡ false = sym w.eq.ensures ∙ w.if-eq.false in
          let count : 1 + w.columns_of-columns.result ≡ suc (columns access.key) = omega (arith, w.columns_of-columns.ensures.value) in
          let next : c.if-is_writing.number ≡ c.loop-access.number + suc (columns access.key) = w.number-is ∙ ap (λ more. c.loop-access.number + more) count in
          let small : w.columns_of-columns.result ≤ 8 = w.columns_of-columns.ensures.few in
          let later = length_later columns accesses at access below is writes in
          let room = c.loop-access.invariant.room in
          let few = c.loop-access.invariant.few in
          record {
            source = c.loop-access.invariant.source;
            kept = c.loop-access.invariant.kept;
            few = omega (arith, next, count, small, few);
            room = omega (arith, next, later, room);
            rest =
                ap (λ first. cell_of columns left (drop first words) key) next
                ∙ ap (λ passed. cell_of columns left passed key) (sym (drop-drop (suc (columns access.key)) c.loop-access.number words))
                ∙ sym (cell_later columns accesses at access below is (drop c.loop-access.number words) key writes other)
                ∙ c.loop-access.invariant.rest;
          }
      | else-is_writing w ↦
          let reads = sym c.is_writing.ensures ∙ w.if-is_writing.false in
          let next : c.if-is_writing.number ≡ c.loop-access.number = w.number-is in
          let read = length_read columns accesses at access below is reads in
          let room = c.loop-access.invariant.room in
          let few = c.loop-access.invariant.few in
          record {
            source = c.loop-access.invariant.source;
            kept = c.loop-access.invariant.kept;
            few = omega (arith, next, few);
            room = omega (arith, next, read, room);
            rest =
                ap (λ first. cell_of columns left (drop first words) key) next
                ∙ sym (cell_read columns accesses at access below is (drop c.loop-access.number words) key reads)
                ∙ c.loop-access.invariant.rest;
          }
    ]
