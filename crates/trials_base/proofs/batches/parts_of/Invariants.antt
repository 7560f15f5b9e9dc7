use Rattle.std.proofs.Common.{◌≡◌, ◌-◌, map}
use Rattle.std.specs.List.{range_with_len}
use Rattle.placing.specs.Parts.{part_of}
use Rattle.trials_base.proofs.batches.parts_of.Given as goal

abbrev pub invariant-loop-partition : goal.invariant-loop-partition
invariant-loop-partition l =
    l.parts.items ≡ map (part_of l.partitions l.log.statements l.range.start (l.range.end - l.range.start)) (range_with_len 0 l.partition)
