use Rattle.log_batch.specs.Supplied.{batch_of}
use Rattle.filling.proofs.Numbered.{ends-none}
use Rattle.filling.proofs.ends.no_ends.Goals as goal

pub returns : goal.returns
returns c =
    let b = batch_of c.args.key.now.batch in
    let sound = c.places-places.ensures.sound in
    rw c.new.ensures.items
    (ends-none b c.args.key.now.slots c.args.index
    (λ slot within sets.
    let by = c.records_end_by_revocations.ensures b c.args.index slot sound within sets in
    c.requires (c.records_end_by_done_places.ensures b c.args.index slot sound within sets).1 (by.revocation, by.deed)))
