use Rattle.std.proofs.Common.{sym, ◌∙◌, ap}
use Rattle.chains.specs.Keyed.{Held}
use Rattle.chains.specs.Store.{Store, cut_store}
use Rattle.chains.proofs.Cutting.{whole-below}
use Rattle.chains.proofs.Placed.{kept-chained}
use Rattle.chains.proofs.store.Chains.mark.Goals as goal

pub returns-clause-whole : goal.returns-clause-whole
returns-clause-whole c =
    let below = whole-below c.self.inside.end c.self.inside.rows (kept-chained c.self.invariant.0) in
    ap (λ (store : Store). cut_store store.end store) (sym c.self.view_is)
    ∙ ap (λ (held : Held). record { versions = held.versions; mark = c.self.inside.mark; end = c.self.inside.end }) below
    ∙ c.self.view_is
