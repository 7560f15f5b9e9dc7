use Rattle.std.proofs.Common.{[], length, ap, ◌∙◌}
use Rattle.bohm_core_base.specs.Batch.{words_length}
use Rattle.words.specs.Passes.{PassState}
use Rattle.filling_base.specs.Storing.{ended_below}
use Rattle.filling_base.proofs.Loops.{among-ended, now-finished, stores-then}
use Rattle.filling_base.proofs.storing.store.Goals as goal

pub store_ends-requires-clause-ready : goal.store_ends-requires-clause-ready
store_ends-requires-clause-ready g c other has = c.store_words.ensures.stores.goes.knows other (c.requires.ready other has)

pub finish_place-requires-clause-whole : goal.finish_place-requires-clause-whole
finish_place-requires-clause-whole g c =
    let listed = g.K.BatchData.listed c.args.words.now.key in
    let ends = c.args.ends.now in (
      ended_below listed ends (length ends),
      c.store_ends.ensures.stores.holds,
      λ slot within ends-it. (let found = c.requires.ends.all slot within ends-it in among-ended listed ends (length ends) found.0 slot found.1 found.2),
    )

pub returns-clause-finishes : goal.returns-clause-finishes
returns-clause-finishes g c =
    let b = g.K.BatchData.batch c.args.words.now.key in
    let listed = g.K.BatchData.listed c.args.words.now.key in
    let ends = c.args.ends.now in
    let v = c.args.holding.now.view in
    let u = c.store_words.new.holding.view in
    let w = c.store_ends.new.holding in
    now-finished c.args.index w.number (words_length b c.args.index) v w.view c.finish_place.new.pass.view (ended_below listed ends (length ends))
    (stores-then c.args.index v u w.view (length c.args.own.now) (words_length b c.args.index) [] (ended_below listed ends (length ends)) c.store_words.ensures.stores c.store_ends.ensures.stores)
    (ap (λ (p : PassState). p.view) c.finish_place.ensures)

pub returns-clause-bodies : goal.returns-clause-bodies
returns-clause-bodies g c = ap (λ (p : PassState). p.bodies) c.finish_place.ensures ∙ c.store_ends.ensures.bodies ∙ c.store_words.ensures.bodies
