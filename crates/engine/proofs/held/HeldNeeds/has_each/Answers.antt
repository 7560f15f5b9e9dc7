use Rattle.std.proofs.Common.{subst, arith}
use Rattle.std.proofs.lemmas.List.Elements.{All-more}
use Rattle.model_base.specs.declared.statement.Access.{Access}
use Rattle.model_base.specs.Outcomes.{needs_of_access}
use Rattle.engine.specs.Held.{HasAll}
use Rattle.engine.proofs.Holding.{has_access, has_accesses, taken_whole}
use Rattle.engine.proofs.held.HeldNeeds.has_each.Goals as goal

pub loop-access-preserved : goal.loop-access-preserved
loop-access-preserved c = λ book are.
    let P : Access → Type 0 = λ access. HasAll book c.args.user (needs_of_access access) in
    All-more P c.args.accesses.now c.loop-access.access-index c.access-item.result (omega (arith, c.loop-access-test.true, c.loop-access.auto.access-index-end)) (c.loop-access.invariant book are)
    (subst P c.access-item.is (has_access book c.args.user c.access-item.result (λ kind is. c.kinds.ensures book are kind (c.are_among.ensures c.if-not-are_among.false kind is))))

pub returns : goal.returns
returns c = λ _ book are.
    let P : Access → Type 0 = λ access. HasAll book c.args.user (needs_of_access access) in
    has_accesses book c.args.user c.args.accesses.now
    (taken_whole P c.loop-access.access-index c.args.accesses.now (omega (arith, c.loop-access-test.false, c.loop-access.auto.access-index-end)) (c.loop-access.invariant book are))
