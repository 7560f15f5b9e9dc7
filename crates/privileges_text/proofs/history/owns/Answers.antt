use Rattle.std.proofs.Common.{sym, ◌∙◌}
use Rattle.model_base.specs.Outcomes.{owners}
use Rattle.grants.proofs.Passing.{owns_owner}
use Rattle.privileges_text.proofs.history.owns.Goals as goal

pub returns : goal.returns
returns c =
    c.eq.ensures
    ∙ sym (owns_owner (owners c.args.engine.now.log.statements) c.args.of.now.user c.args.of.now.need.table c.owner_of.result c.owner_of.ensures)
