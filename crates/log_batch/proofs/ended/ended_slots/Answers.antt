use Rattle.std.proofs.Common.{◌≡◌, sym, ◌∙◌, subst}
use Rattle.words.specs.Layout.{IsListed}
use Rattle.log_batch.specs.Supplied.{batch_of, range_of}
use Rattle.log_batch.proofs.Listed.{listed-right}
use Rattle.log_batch.proofs.ended.ended_slots.Goals as goal

pub returns-clause-listed : goal.returns-clause-listed
returns-clause-listed c =
    let b = batch_of c.args.batch.now in
    let found : c.into_slots.result.items ≡ c.in_ok-reach.reach.slots.items = λ t. (c.into_slots.ensures t).items in
    subst (IsListed b) (sym (found ∙ c.in_ok-reach.ensures.slots))
    (listed-right b (c.batches_of_logs_are_sound.ensures (range_of c.args.batch.now) c.log-log.ensures.of_log) c.done_places_are_serial.ensures.ender c.done_places_are_serial.ensures.ended c.records_end_by_cascades.ensures)
