use Rattle.std.proofs.Common.{◌≡◌, List, IfOk, sym, subst}
use Rattle.model_base.specs.declared.deed.Deed.{Deed}
use Rattle.model_base.specs.Outcomes.{deed_done, owners, world_before}
use Rattle.engine.specs.RunState.{AreOwnDeeds}
use Rattle.engine.proofs.booking.make_deeds.Goals as goal

pub make-requires : goal.make-requires
make-requires g c =
    subst (λ (ds : List Deed). AreOwnDeeds g.log.statements c.args.place ds c.args.book.now) (sym c.deeds_at.ensures) c.requires

pub returns-clause-told : goal.returns-clause-told
returns-clause-told g c =
    let done_as = deed_done (owners g.log.statements) (world_before g.log.statements c.args.place) in
    subst (λ (ds : List Deed). IfOk c.make.result (λ done. done ≡ done_as ds)) c.deeds_at.ensures c.make.ensures.told
