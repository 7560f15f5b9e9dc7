use Rattle.std.proofs.Common.{◌-◌}
use Rattle.log_batch.proofs.AtHand.{counted-at-hand}
use Rattle.log_batch.proofs.batch.LogBatch.open.Goals as goal

pub of-requires-clause-references : goal.of-requires-clause-references
of-requires-clause-references c =
    counted-at-hand c.args.places.log.now.log.statements c.args.places.range.start (c.args.places.range.end - c.args.places.range.start) c.in_ok-counts.counts c.in_ok-counts.ensures
