use Rattle.std.proofs.Common.{◌≡◌, ◌≤◌, ◌-◌, ◌*◌, fold, map}
use Rattle.std.specs.List.{range_with_len}
use Rattle.placing.specs.Latest.{IsLatest}
use Rattle.placing.specs.Parts.{own_references, part_of, with_place}
use Rattle.placing.proofs.placer.place.Given as goal

-- with what there is to find at the rest of the places, the part results in what it results in in the end; and the last places
-- are kept
abbrev pub invariant-loop-place : goal.invariant-loop-place
invariant-loop-place l = record {
  part :
      fold with_place l.part (map (own_references l.partitions l.log.log.statements l.fn.range.start l.partition) (range_with_len l.place (l.place-end - l.place)))
      ≡ part_of l.partitions l.log.log.statements l.fn.range.start (l.fn.range.end - l.fn.range.start) l.partition;
  latest : IsLatest l.latest l.log.log.statements l.fn.range.start l.place;
  partition : l.latest.partition ≡ l.partition;
  partitions : l.latest.partitions ≡ l.partitions;
  count : l.part.count ≤ 33 * (l.place - l.fn.range.start);
}
