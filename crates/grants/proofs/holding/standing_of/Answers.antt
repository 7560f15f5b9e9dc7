use Rattle.std.proofs.Common.{refl, sym, ◌∙◌}
use Rattle.grants.proofs.Standings.{held_by_owner, held_by_slots}
use Rattle.grants.proofs.holding.standing_of.Goals as goal

pub returns-then-eq-clause-value : goal.returns-then-eq-clause-value
returns-then-eq-clause-value g c =
    rw (held_by_owner (g.V.Records.shown c.args.view.now) c.args.user c.owner.result c.args.need.now c.owner.ensures (sym c.eq.ensures ∙ c.if-eq.true)) refl

pub returns-else-eq-clause-value : goal.returns-else-eq-clause-value
returns-else-eq-clause-value g c =
    rw (← held_by_slots (g.V.Records.shown c.args.view.now) c.args.user c.owner.result c.args.need.now c.owner.ensures (sym c.eq.ensures ∙ c.if-eq.false)) c.standing_in_slots.ensures.value
