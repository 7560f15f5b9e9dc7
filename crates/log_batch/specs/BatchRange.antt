-- A range of a log that becomes a batch.
use Rattle.std.specs.Prelude.{◌<◌, ◌≤◌, Bool, length}
use Rattle.model_base.specs.declared.limits.TheConstants.{MOST_PARTITIONS}
use Rattle.log_batch.specs.declared.batch_range.BatchRange.{BatchRange}
use Rattle.log_batch.specs.StateBefore.{IsStateBefore}
use Rattle.log_batch.specs.Supplied.{LogRange, log_range}

-- the places are of the log and none of them was dropped, some partitions place them but not too many, and the state is that before them
pub record IsBatchRange (places : BatchRange) : Type 0 where
  pub partitions : 0 < places.partitions
  pub few : places.partitions ≤ MOST_PARTITIONS
  pub kept : places.log.now.dropped ≤ places.range.start
  pub order : places.range.start ≤ places.range.end
  pub within : places.range.end ≤ length places.log.now.log.statements
  pub before : IsStateBefore places.log.now.log.statements places.range.start places.before

-- the range as a batch, which was placed before or not
abbrev pub range_given : BatchRange → Bool → LogRange
range_given places placed = log_range places.log.now.log places.range.start places.range.end places.partitions placed
