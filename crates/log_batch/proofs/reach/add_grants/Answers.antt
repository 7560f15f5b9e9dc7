use Rattle.std.proofs.Common.{arith}
use Rattle.log_batch.specs.Supplied.{batch_of}
use Rattle.log_batch.specs.Reach.{has_party}
use Rattle.log_batch.proofs.Reaching.{adds-one}
use Rattle.log_batch.proofs.reach.add_grants.Goals as goal

pub loop-from-preserved : goal.loop-from-preserved
loop-from-preserved c =
    let low = c.loop-from.invariant.start in
    let next = c.in-Some.ensures in
    let above = next.there.0 in record {
      end = c.earlier_count-end.ensures.value;
      start = omega arith;
      adds =
          adds-one (batch_of c.args.batch.now) (has_party c.args.party.now) c.args.start c.args.due.now.keys c.loop-from.from c.in-Some.slot
          c.loop-from.due.keys c.add_slot.new.due.keys low c.loop-from.invariant.adds next c.in_ok-add_slot.ensures;
    }
