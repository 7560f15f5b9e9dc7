use Rattle.log_batch.specs.Supplied.{batch_of, range_of}
use Rattle.log_batch.specs.Reach.{has_party}
use Rattle.log_batch.proofs.OpenSlots.{open-first}
use Rattle.log_batch.proofs.Reaching.{open-next}
use Rattle.log_batch.proofs.reach.next_of.Goals as goal

pub returns-in-Some : goal.returns-in-Some
returns-in-Some c =
    open-first (range_of c.args.batch.now) (has_party c.args.party.now) c.args.from c.in-Some.next.slot c.in-Some.ensures

pub returns-in-None : goal.returns-in-None
returns-in-None c =
    open-next (batch_of c.args.batch.now) (has_party c.args.party.now) c.args.from c.next_made.result c.next_made.ensures
