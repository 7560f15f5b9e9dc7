use Rattle.std.proofs.Common.{[], ◌∷◌, sym, subst, arith}
use Rattle.bohm_core_base.specs.Batch.{words_length}
use Rattle.words.specs.Layout.{listed_slot_at}
use Rattle.words.specs.Passes.{PassState}
use Rattle.words.specs.Views.{Holds}
use Rattle.thread_trials.proofs.Stored.{ends-it, one-listed}
use Rattle.thread_trials.proofs.by_hand.end_and_finish.Goals as goal

pub set_end-requires-clause-ready : goal.set_end-requires-clause-ready
set_end-requires-clause-ready g c other has = absurd (c.requires.ready other has)

pub set_end-requires-clause-right : goal.set_end-requires-clause-right
set_end-requires-clause-right g c =
    let view = c.args.known.now.view in
    let end = c.in-Some.end in
    let tells = rw c.requires.listed at (rw c.requires.same at c.in-Some.ensures.tells) in
    ends-it (g.K.BatchData.batch c.args.words.now.key) (listed_slot_at (g.K.BatchData.listed c.args.words.now.key) 0) c.args.index end view tells (omega arith)

pub finish_place-requires-clause-whole : goal.finish_place-requires-clause-whole
finish_place-requires-clause-whole g c =
    let batch = g.K.BatchData.batch c.args.words.now.key in
    let listed = g.K.BatchData.listed c.args.words.now.key in
    let slot = listed_slot_at listed 0 in
    let holding = c.args.holding.now in (
      slot ∷ [],
      subst (λ (p : PassState). Holds p.view c.args.index (words_length batch c.args.index) (slot ∷ [])) (sym c.set_end.ensures)
          (c.own_events_tell_what_is_held.ensures.ended holding.view holding.number c.args.index slot (words_length batch c.args.index) [] c.requires.held),
      λ other within ends. one-listed listed other c.requires.one.0 (c.requires.one.1.every c.args.index other within ends),
    )
