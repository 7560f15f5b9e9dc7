use Rattle.std.proofs.Common.{◌∙◌}
use Rattle.model_base.proofs.NeedsLeft.{needs_left-last, needs_left-next}
use Rattle.model_base.proofs.needs.Needs.next.Goals as goal

pub accesses-preserved : goal.accesses-preserved
accesses-preserved c =
    let now = c.accesses.self-inside in
    needs_left-next now.table now.kinds c.in-Some-split_first.access.now now.accesses.now c.in-Some-split_first.later.now now.deed
    c.in_default.ensures.0 c.in-Some-split_first.ensures.cases.0
    ∙ c.accesses.invariant

pub returns-in_default-split_first : goal.returns-in_default-split_first
returns-in_default-split_first c =
    let now = c.accesses.self-inside in
    needs_left-last now.table now.kinds c.take_kind.new.kinds now.accesses.now now.deed c.next.new.self c.next.result c.args.self.now
    (c.accesses.invariant ∙ c.self.view_is) c.in_default.ensures.0 c.in_default.ensures.1 c.in_default-split_first.ensures.cases
    c.next.ensures
