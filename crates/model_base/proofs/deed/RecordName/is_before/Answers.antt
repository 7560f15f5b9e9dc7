use Rattle.std.proofs.Common.{arith}
use Rattle.model_base.proofs.Ranked.{higher-place, lower-place, same-place}
use Rattle.model_base.proofs.deed.RecordName.is_before.Goals as goal

pub returns-then-self-other : goal.returns-then-self-other
returns-then-self-other c =
    lower-place c.self.inside c.other.inside c.args.self c.args.other c.self.view_is c.other.view_is c.if-self-other.true

pub returns-then-self-other-2 : goal.returns-then-self-other-2
returns-then-self-other-2 c =
    same-place c.self.inside c.other.inside c.args.self c.args.other c.self.view_is c.other.view_is
    c.number_at_place.result c.number_at_place-then-self-other-2.result c.if-self-other-2.true
    c.number_at_place.ensures c.number_at_place-then-self-other-2.ensures

pub returns-else-self-other-2 : goal.returns-else-self-other-2
returns-else-self-other-2 c =
    let more = c.if-self-other.false in
    higher-place c.self.inside c.other.inside c.args.self c.args.other c.self.view_is c.other.view_is (omega arith) c.if-self-other-2.false
