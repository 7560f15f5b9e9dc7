use Rattle.std.proofs.Common.{◌≡◌, ◌+◌, drop, length, map, take}
use Rattle.own_words.specs.Words.{signed}
use Rattle.bohm_core_base.specs.Serial.{serial_words}
use Rattle.evaluation.proofs.rows.row_at.Given as goal

-- the numbers so far are those of the words after the first one
abbrev pub invariant-loop-column : goal.invariant-loop-column
invariant-loop-column g l = record {
  source : g.T.ReadSource.as_reader l.source ≡ g.T.ReadSource.as_reader l.initial.source;
  kept : g.T.ReadSource.work l.source ≡ g.T.ReadSource.work l.initial.source;
  count : length l.row ≡ l.column;
  row : l.row ≡ map signed (take l.column (drop (l.number + 1) (serial_words (g.T.ReadSource.as_reader l.initial.source).batch l.index)));
}
