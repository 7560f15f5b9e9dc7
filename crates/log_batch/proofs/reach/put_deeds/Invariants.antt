use Rattle.log_batch.specs.Supplied.{batch_of}
use Rattle.log_batch.specs.Listing.{is_revoked}
use Rattle.log_batch.specs.Reach.{AreSeeds}
use Rattle.log_batch.proofs.reach.put_deeds.Given as goal

abbrev pub invariant-loop-index : goal.invariant-loop-index
invariant-loop-index l = AreSeeds (batch_of l.batch) (is_revoked (batch_of l.batch) l.index) l.revoked l.due.keys
