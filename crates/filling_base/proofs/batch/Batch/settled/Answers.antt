use Rattle.std.proofs.Common.{◌≡◌, subst}
use Rattle.bohm_core_base.specs.Batch.{Batch}
use Rattle.words.specs.Views.{KnowsPast}
use Rattle.filling_base.proofs.batch.Batch.settled.Goals as goal

pub settle_fronts-requires-clause-past : goal.settle_fronts-requires-clause-past
settle_fronts-requires-clause-past g c =
    let view = c.self.view_is in
    let words : g.K.BatchData.batch c.args.self.now.key ≡ g.K.BatchData.batch c.self.inside.words.key = cc in
    subst (λ (x : Batch). KnowsPast x c.args.holding.view c.args.last) words c.requires.past
