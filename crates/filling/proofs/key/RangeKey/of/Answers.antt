use Rattle.std.proofs.Common.{sym, subst}
use Rattle.std.specs.List.Sorted.{IsStrictlyIncreasing}
use Rattle.log_batch.specs.Supplied.{batch_of}
use Rattle.filling.proofs.InOrder.{slots-rise}
use Rattle.filling.proofs.key.RangeKey.of.Goals as goal

pub invariant_of-result : goal.invariant_of-result
invariant_of-result c = record {
  some = c.requires;
  listed = c.in_ok-slots.ensures.listed;
  order = subst IsStrictlyIncreasing (sym c.in_ok-slots.ensures.value) (slots-rise (batch_of c.args.batch));
}
