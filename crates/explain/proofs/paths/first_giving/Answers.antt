use Rattle.std.proofs.Common.{None, Some, subst, ℕ}
use Rattle.grants_base.specs.View.{View}
use Rattle.model_base.specs.declared.deed.Grantee.TheVariants.{Public}
use Rattle.grants.specs.Loss.{narrowed}
use Rattle.explain.specs.Steps.{IsFirstGiving, slot_or}
use Rattle.explain.proofs.Searching.{first_option, first_own, first_public}
use Rattle.explain.proofs.paths.first_giving.Goals as goal

pub returns-then-need-clause-first : goal.returns-then-need-clause-first
returns-then-need-clause-first g c =
    first_option (g.V.Records.shown c.args.view.now) c.args.user c.args.need.now c.args.end c.first_giving_to-own.result c.if-need.true
    c.first_giving_to-own.ensures.first

pub returns-in-Some-clause-first : goal.returns-in-Some-clause-first
returns-in-Some-clause-first g c =
    let view = g.V.Records.shown c.args.view.now in
    let seen = g.V.Records.shown c.first_giving_to-own.new.view in
    let user = c.args.user in
    let need = c.args.need.now in
    let own = c.first_giving_to-own.result in
    let here = subst (λ (n : ℕ). IsFirstGiving (narrowed Public seen) user need n (Some c.in-Some.giving)) c.slot_or-below.ensures c.in-Some.ensures.first in
    first_public view user need c.args.end own c.in-Some.giving c.first_giving_to-own.ensures.first
    (subst (λ (v : View). IsFirstGiving (narrowed Public v) user need (slot_or c.args.end own) (Some c.in-Some.giving)) c.first_giving_to-own.ensures.same here)

pub returns-in-None-clause-first : goal.returns-in-None-clause-first
returns-in-None-clause-first g c =
    let view = g.V.Records.shown c.args.view.now in
    let seen = g.V.Records.shown c.first_giving_to-own.new.view in
    let user = c.args.user in
    let need = c.args.need.now in
    let own = c.first_giving_to-own.result in
    let here = subst (λ (n : ℕ). IsFirstGiving (narrowed Public seen) user need n None) c.slot_or-below.ensures c.in-None.ensures.first in
    first_own view user need c.args.end own c.first_giving_to-own.ensures.first
    (subst (λ (v : View). IsFirstGiving (narrowed Public v) user need (slot_or c.args.end own) None) c.first_giving_to-own.ensures.same here)
