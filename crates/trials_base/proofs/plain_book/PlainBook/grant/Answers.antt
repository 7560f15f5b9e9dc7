use Rattle.std.proofs.Common.{refl}
use Rattle.grants.proofs.GrantLaws.{sound_granted}
use Rattle.grants.proofs.LaterLaws.{next_later}
use Rattle.trials_base.proofs.plain_book.PlainBook.grant.Goals as goal

pub invariant_of-self-2 : goal.invariant_of-self-2
invariant_of-self-2 c =
    rw c.in_ok-push.ensures.items
    (sound_granted _ c.args.self.now c.args.grant c.self.view_is c.self.invariant (next_later c.args.self.now c.args.grant (c.if-not-may_come.ensures.later refl)) (c.if-not-may_come.ensures.table refl) (c.if-not-may_come.ensures.held refl))
