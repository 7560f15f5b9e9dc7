use Rattle.std.proofs.Common.{ap, ◌∙◌}
use Rattle.workers.proofs.shared.Shared.places.Goals as goal

pub returns : goal.returns
returns g c =
    c.places.ensures.value
    ∙ ap (λ key. (g.K.BatchData.batch key).size) c.key.ensures
    ∙ ap (λ words. (g.K.BatchData.batch words.key).size) c.self.view_is
