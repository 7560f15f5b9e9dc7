use Rattle.std.proofs.Common.{subst}
use Rattle.grants_base.specs.Force.{IsWithdrawn, Privilege, held_by_one, held_by_others, privilege_of}
use Rattle.grants_base.proofs.PrivilegeLaws.{withdrawn}
use Rattle.grants_base.proofs.force.Privilege.end.Goals as goal

pub returns-then-option : goal.returns-then-option
returns-then-option c = λ _.
    let inside = c.self.inside in
    let one = held_by_one c.take_one.new.one in
    let others = held_by_others c.remove_other.new.others in
    subst (λ (old : Privilege). IsWithdrawn c.args.granted.now c.args.place c.args.option old (privilege_of one others c.later-self-inside.result c.later-self-inside-then-option.result)) c.self.view_is
    (withdrawn c.args.granted.now inside.lost inside.lost_with_option c.args.option c.args.place (held_by_one inside.one) one (held_by_others inside.others) others
    c.later-self-inside.result c.later-self-inside-then-option.result (c.take_one.ensures c.if-not-take_one.false) c.remove_other.ensures c.later-self-inside.ensures
    (rw c.if-option.true c.later-self-inside-then-option.ensures))
