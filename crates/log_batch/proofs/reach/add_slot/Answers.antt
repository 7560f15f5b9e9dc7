use Rattle.std.proofs.Common.{◌≡◌, ◌&&◌, ◌||◌, Bool, true, sym, ap, ◌∙◌}
use Rattle.std.specs.Prelude.{◌==◌, is_none}
use Rattle.log_batch.specs.Supplied.{batch_of}
use Rattle.log_batch.specs.Listing.{is_open}
use Rattle.grants_base.specs.Index.{is_one_of}
use Rattle.log_batch.proofs.Listed.{none-told}
use Rattle.log_batch.proofs.Reaching.{one_more}
use Rattle.log_batch.proofs.reach.add_slot.Goals as goal

pub returns-in_ok-insert : goal.returns-in_ok-insert
returns-in_ok-insert c j =
    let slot = c.args.slot in
    let told = none-told c.end_at_first.result c.is_none-unended.result c.is_none-unended.ensures in
    let open_slot : is_open (batch_of c.args.batch.now) slot ≡ true = sym (ap is_none c.end_at_first.ensures) ∙ told ∙ c.if-unended.true in
    one_more c.args.due.now c.insert.new.self slot c.in_ok-insert.ensures.updates j
    ∙ ap (λ (is : Bool). (is && (slot == j)) || is_one_of c.args.due.now.keys j) (sym open_slot)
