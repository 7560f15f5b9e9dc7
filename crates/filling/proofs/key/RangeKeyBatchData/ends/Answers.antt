use Rattle.std.proofs.Common.{arith}
use Rattle.log_batch.specs.Supplied.{batch_of, range_of}
use Rattle.log_batch.proofs.FewSlots.{few-slots}
use Rattle.words.proofs.Listed.{few-listed}
use Rattle.filling.proofs.key.RangeKeyBatchData.ends.Goals as goal

pub returns-clause-few : goal.returns-clause-few
returns-clause-few c =
    let key = c.self.inside in
    let listed = few-listed (batch_of key.batch) key.slots.items c.self.invariant.listed in
    omega (arith, c.len.ensures, listed, few-slots (range_of key.batch), c.first_place-first.ensures.small)
