use Rattle.std.proofs.Common.{◌≡◌, ◌-◌, subst}
use Rattle.placing.specs.Parts.{part_of}
use Rattle.sequencer.specs.Log.{Accepted}
use Rattle.trials_base.proofs.Placed.{one_more}
use Rattle.trials_base.proofs.batches.parts_of.Goals as goal

pub loop-partition-preserved : goal.loop-partition-preserved
loop-partition-preserved c =
    let start = c.args.range.start in
    let size = c.args.range.end - c.args.range.start in
    let partition = c.loop-partition.partition in
    one_more (part_of c.args.partitions c.args.log.now.statements start size) partition c.loop-partition.parts.items c.push.new.self.items
    c.in_ok-place.field-0 c.in_ok-push.ensures.items c.loop-partition.invariant
    (subst (λ (log : Accepted). c.in_ok-place.field-0 ≡ part_of c.args.partitions log.statements start size partition) c.tail.ensures.log
    c.in_ok-place.ensures)
