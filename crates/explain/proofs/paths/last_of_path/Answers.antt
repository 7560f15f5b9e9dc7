use Rattle.std.proofs.Common.{sym, ◌∙◌}
use Rattle.model_base.proofs.Paths.{path-owner}
use Rattle.grants.proofs.Passing.{owns_owner}
use Rattle.explain.specs.Steps.{stood}
use Rattle.explain.proofs.Searching.{first_below, first_is_last}
use Rattle.explain.proofs.paths.last_of_path.Goals as goal

pub returns-then-eq-clause-last : goal.returns-then-eq-clause-last
returns-then-eq-clause-last g c =
    λ owners is.
    path-owner owners (stood (g.V.Records.shown c.args.view.now) c.args.end) c.args.user c.args.need
    (owns_owner owners c.args.user c.args.need.table c.args.owner is ∙ sym c.eq.ensures ∙ c.if-eq.true)

pub returns-else-eq-clause-last : goal.returns-else-eq-clause-last
returns-else-eq-clause-last g c =
    λ owners is.
    first_is_last c.args.user c.args.need (g.V.Records.shown c.args.view.now) owners c.args.end c.first_giving.result
    (owns_owner owners c.args.user c.args.need.table c.args.owner is ∙ sym c.eq.ensures ∙ c.if-eq.false) c.first_giving.ensures.first

pub returns-else-eq-clause-below : goal.returns-else-eq-clause-below
returns-else-eq-clause-below g c =
    first_below c.args.user c.args.need (g.V.Records.shown c.args.view.now) c.args.end c.first_giving.result c.first_giving.ensures.first
