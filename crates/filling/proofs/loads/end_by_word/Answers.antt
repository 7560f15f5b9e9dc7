use Rattle.std.proofs.Common.{None, ◌∙◌, subst}
use Rattle.log_batch.specs.Supplied.{batch_of}
use Rattle.filling.specs.Keys.{Key}
use Rattle.words.specs.Layout.{listed_slot_at}
use Rattle.words.specs.Meanings.{EndMeans}
use Rattle.filling.proofs.Telling.{end-early, end-unlisted, end-word}
use Rattle.filling.proofs.loads.end_by_word.Goals as goal

pub returns-in-Some-clause-told : goal.returns-in-Some-clause-told
returns-in-Some-clause-told c =
    let b = batch_of c.args.key.now.batch in
    let view = c.args.holding.now.view in
    let tells = subst (λ (k : Key). EndMeans (batch_of k.batch) (listed_slot_at k.slots c.in-Some.end) view c.end.result) c.requires.pass.key c.end.ensures.tells in
    end-word b view c.args.slot (listed_slot_at c.args.key.now.slots c.in-Some.end) c.end.result c.in-Some.ensures.1 tells

pub returns-in-None-clause-told : goal.returns-in-None-clause-told
returns-in-None-clause-told c =
    let b = batch_of c.args.key.now.batch in
    end-early b c.args.holding.now.view c.args.slot None
    (end-unlisted b c.args.key.now.slots c.args.slot c.ends-ends.ensures.listed c.requires.slot
    (c.other_records_keep_their_ends.ensures b c.args.slot c.places-places.ensures.sound c.requires.slot) c.in-None.ensures
    ∙ c.requires.open)
