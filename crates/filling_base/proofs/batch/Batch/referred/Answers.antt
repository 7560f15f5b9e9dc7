use Rattle.std.proofs.Common.{◌≡◌, ◌<◌, sym, subst, arith}
use Rattle.bohm_core_base.specs.Batch.{Batch, IsSoundBatch}
use Rattle.words.specs.Layout.{partition_at}
use Rattle.words.specs.Views.{KnowsFront}
use Rattle.filling_base.proofs.batch.Batch.referred.Goals as goal

pub reference-requires-clause-known : goal.reference-requires-clause-known
reference-requires-clause-known g c =
    let invariant = c.self.invariant in
    let view = c.self.view_is in
    let same : g.K.BatchData.batch c.args.self.now.key ≡ g.K.BatchData.batch c.self.inside.key = cc in
    let words : g.K.BatchData.batch c.args.self.now.key ≡ g.K.BatchData.batch c.self.inside.words.key = cc in
    let b = g.K.BatchData.batch c.args.self.now.key in
    let sound : IsSoundBatch b = subst (λ (x : Batch). IsSoundBatch x) (sym same) c.places-places.ensures.sound in
    let low : partition_at b c.args.index c.args.number < b.partitions = sound.within c.args.index c.args.number (let long = sound.same_length c.args.index in let number = c.requires.number in omega arith) in
    subst (λ (x : Batch). KnowsFront c.args.holding.now.view (partition_at x c.args.index c.args.number) c.args.index) words
    (c.requires.past (partition_at b c.args.index c.args.number) low)
