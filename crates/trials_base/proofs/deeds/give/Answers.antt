use Rattle.std.proofs.Common.{refl}
use Rattle.grants.proofs.LaterLaws.{next_later}
use Rattle.trials_base.proofs.deeds.give.Goals as goal

pub grant-requires-clause-later : goal.grant-requires-clause-later
grant-requires-clause-later c = next_later c.args.book.now c.args.grant (c.if-not-may_come.ensures.later refl)
