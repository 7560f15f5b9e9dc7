use Rattle.std.proofs.Common.{◌+◌, ◌==◌, Some, None, ap, ◌∙◌, subst}
use Rattle.log_batch.specs.Supplied.{LogRange, batch_of}
use Rattle.filling.specs.Keys.{Key}
use Rattle.words.specs.Layout.{listed_slot_at}
use Rattle.words.specs.Meanings.{EndMeans}
use Rattle.filling.proofs.Telling.{record-ended}
use Rattle.filling.proofs.outcomes.ended_record.Goals as goal

pub returns-in-Some-clause-value : goal.returns-in-Some-clause-value
returns-in-Some-clause-value c =
    let key = c.args.key.now in
    let view = c.args.holding.now.view in
    let tells = subst (λ (k : Key). EndMeans (batch_of k.batch) (listed_slot_at k.slots c.args.number) view (Some c.in-Some.end)) c.requires.done.key c.in-Some.ensures.tells in
    let first = c.first_place.ensures.value ∙ ap (λ (r : LogRange). r.first) c.batch.ensures in
    ap (λ n. c.in-Some.end == n + c.args.index) first
    ∙ record-ended (batch_of key.batch) view (listed_slot_at key.slots c.args.number) c.args.index (Some c.in-Some.end) tells c.requires.done.known

pub returns-in-None-clause-value : goal.returns-in-None-clause-value
returns-in-None-clause-value c =
    let key = c.args.key.now in
    let view = c.args.holding.now.view in
    let tells = subst (λ (k : Key). EndMeans (batch_of k.batch) (listed_slot_at k.slots c.args.number) view None) c.requires.done.key c.in-None.ensures.tells in
    record-ended (batch_of key.batch) view (listed_slot_at key.slots c.args.number) c.args.index None tells c.requires.done.known
