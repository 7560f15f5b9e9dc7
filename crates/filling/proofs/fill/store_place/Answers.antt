use Rattle.std.proofs.Common.{◌+◌, ℕ, List, length, sym, ap, ◌∙◌, subst}
use Rattle.bohm_core_base.specs.Batch.{words_length}
use Rattle.bohm_core_base.proofs.Kept.{serial-length}
use Rattle.log_batch.specs.Supplied.{LogRange, batch_of}
use Rattle.filling.specs.Keys.{Key}
use Rattle.words.specs.Views.{KnowsReferences}
use Rattle.filling.proofs.fill.store_place.Goals as goal

pub store-requires-clause-ready : goal.store-requires-clause-ready
store-requires-clause-ready c =
    subst (λ (k : Key). KnowsReferences (batch_of k.batch) c.args.holding.view c.args.index) (sym c.requires.reads.key) c.requires.reads.ready

pub store-requires-clause-long : goal.store-requires-clause-long
store-requires-clause-long c =
    ap (λ (list : List ℕ). length list) (c.as_slice.ensures ∙ c.requires.own)
    ∙ serial-length (batch_of c.args.key.now.batch) c.places-places.ensures.sound c.args.index
    ∙ ap (λ (k : Key). words_length (batch_of k.batch) c.args.index) (sym c.requires.reads.key)

pub store-requires-clause-place : goal.store-requires-clause-place
store-requires-clause-place c =
    ap (λ n. n + c.args.index)
    (c.first_place.ensures.value ∙ ap (λ (r : LogRange). r.first) c.batch.ensures ∙ ap (λ (k : Key). k.batch.first) (sym c.requires.reads.key))
