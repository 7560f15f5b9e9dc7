use Rattle.grants_base.specs.Sides.{same_side, slots_under}
use Rattle.grants_base.proofs.SideLaws.{slots_back}
use Rattle.grants_base.proofs.indexed.push_slot.Goals as goal

pub returns-in-Err-clause-err_by : goal.returns-in-Err-clause-err_by
returns-in-Err-clause-err_by c = λ other.
    slots_back (same_side c.by_side-side.result other) (slots_under c.args.by.now other) (slots_under c.push.new.self other) (slots_under c.pop.new.self other) c.args.slot (c.in_ok-push.ensures.ok other) (c.pop.ensures other)
