use Rattle.std.proofs.Common.{sym, subst, arith}
use Rattle.std.proofs.lemmas.List.Elements.{All-get_or}
use Rattle.model_base.specs.declared.statement.Access.{Access}
use Rattle.model_base.specs.Outcomes.{needs_of_access}
use Rattle.engine.specs.Held.{HasAll}
use Rattle.engine.proofs.Holding.{has_each_access}
use Rattle.engine.proofs.held.HeldNeeds.remember_each.Goals as goal

pub loop-access-preserved : goal.loop-access-preserved
loop-access-preserved c = λ book are all.
    let P : Access → Type 0 = λ access. HasAll book c.args.user (needs_of_access access) in
    c.remember_access.ensures book (c.loop-access.invariant book are all)
    (subst P (sym c.access-item.is)
    (All-get_or P c.args.accesses.now c.loop-access.access-index c.access-item.result (omega (arith, c.loop-access-test.true, c.loop-access.auto.access-index-end)) (has_each_access book c.args.user c.args.accesses.now all)))
