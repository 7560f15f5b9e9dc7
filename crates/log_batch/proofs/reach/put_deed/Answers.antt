use Rattle.std.proofs.Common.{None, Some, ◌∙◌, sym}
use Rattle.log_batch.specs.Supplied.{batch_of, range_of}
use Rattle.log_batch.specs.Listing.{is_revoked}
use Rattle.log_batch.proofs.Reaching.{revoked-told, seeds-same, seeds-whole}
use Rattle.log_batch.proofs.Sound.{deeds_are_placed}
use Rattle.log_batch.proofs.reach.put_deed.Goals as goal

pub returns-in_default : goal.returns-in_default
returns-in_default c =
    let b = batch_of c.args.batch.now in
    let one = (deeds_are_placed (range_of c.args.batch.now)).one c.args.index in
    seeds-same b c.args.index c.args.revoked.now c.args.due.now.keys
    (revoked-told (b.deeds c.args.index) one None (sym c.in_default.is ∙ c.requires.deed)) c.requires.seeds

pub returns : goal.returns
returns c =
    let b = batch_of c.args.batch.now in
    let one = (deeds_are_placed (range_of c.args.batch.now)).one c.args.index in
    seeds-whole b c.args.index c.in-Some.revocation c.put_revocation.new.revoked c.put_revocation.new.due.keys
    (revoked-told (b.deeds c.args.index) one (Some c.in-Some.revocation) (sym c.in-Some.is ∙ c.requires.deed))
    (c.in_ok-put_revocation.ensures (is_revoked b c.args.index) c.requires.seeds)
