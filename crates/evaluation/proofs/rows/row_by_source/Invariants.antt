use Rattle.std.proofs.Common.{◌≡◌, ◌+◌, ◌*◌, ◌≤◌, drop, map}
use Rattle.bohm_core_base.specs.Batch.{cell, cell_of, cells_length, words_length}
use Rattle.bohm_core_base.specs.Serial.{serial_words}
use Rattle.log_batch.specs.Shown.{access_of}
use Rattle.log_batch.specs.Supplied.{batch_of}
use Rattle.evaluation.proofs.rows.row_by_source.Given as goal

-- the accesses that are left have the cell in the words from the number on, and these words have their length
abbrev pub invariant-loop-access : goal.invariant-loop-access
invariant-loop-access g l = record {
  source : g.T.ReadSource.as_reader l.source ≡ g.T.ReadSource.as_reader l.initial.source;
  kept : g.T.ReadSource.work l.source ≡ g.T.ReadSource.work l.initial.source;
  few : l.number ≤ 12 + 9 * l.access-index;
  room : l.number + cells_length (batch_of l.batch).columns (map access_of (drop l.access-index l.access-items)) ≡ words_length (batch_of l.batch) l.index;
  rest :
      cell_of (batch_of l.batch).columns (map access_of (drop l.access-index l.access-items)) (drop l.number (serial_words (batch_of l.batch) l.index)) l.key
      ≡ cell (batch_of l.batch) l.index (serial_words (batch_of l.batch) l.index) l.key;
}
