use Rattle.std.proofs.Common.{◌≤◌, length, ◌∙◌, arith}
use Rattle.model_base.specs.Outcomes.{kinds_in}
use Rattle.model_base.proofs.DeedsLeft.{left-kind}
use Rattle.model_base.proofs.deeds.Grants.next.Goals as goal

pub returns : goal.returns
returns c =
    let now = c.args.self.now in
    let past : length now.grantees.now ≤ now.index = omega (arith, c.if-self-len.false, c.len.ensures.length) in
    left-kind now.place now.grantor now.table now.option now.kind c.in-Some.kind now.grantees.now (kinds_in now.kinds) (kinds_in c.take_kind.new.kinds)
    now.index past c.in-Some.ensures
    ∙ c.take_first-2.ensures
