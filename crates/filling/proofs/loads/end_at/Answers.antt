use Rattle.std.proofs.Common.{Some, [], sym, ap, ◌∙◌}
use Rattle.log_batch.specs.Supplied.{LogRange, batch_of}
use Rattle.bohm_core_base.specs.Machine.{end_of, start}
use Rattle.filling.proofs.Telling.{end-early}
use Rattle.filling.proofs.loads.end_at.Goals as goal

pub returns-in-Some-clause-told : goal.returns-in-Some-clause-told
returns-in-Some-clause-told c =
    let b = batch_of c.args.key.now.batch in
    let early = c.end_at_first.ensures ∙ ap (λ (r : LogRange). end_of (start (batch_of r)) c.args.slot) c.batch.ensures in
    end-early b c.args.holding.now.view c.args.slot (Some c.in-Some.end)
    (c.done_places_are_serial.ensures.ended b [] c.args.slot c.in-Some.end c.places-places.ensures.sound (sym early ∙ c.in-Some.is))

pub end_by_word-requires-clause-open : goal.end_by_word-requires-clause-open
end_by_word-requires-clause-open c =
    let early = c.end_at_first.ensures ∙ ap (λ (r : LogRange). end_of (start (batch_of r)) c.args.slot) c.batch.ensures in
    sym early ∙ c.in-None.is
