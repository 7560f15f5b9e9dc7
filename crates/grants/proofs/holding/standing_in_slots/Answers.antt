use Rattle.std.proofs.Common.{sym, ◌∙◌, ap}
use Rattle.grants_base.specs.View.{View}
use Rattle.model_base.specs.declared.deed.Grantee.TheVariants.{Public, User}
use Rattle.grants.specs.Loss.{both, narrowed, standing_in_slots}
use Rattle.grants.specs.declared.holding.NeedState.{NeedState}
use Rattle.grants.proofs.Narrow.{both-lost, standing_in_slots-parts, standing_in_slots-public}
use Rattle.grants.proofs.holding.standing_in_slots.Goals as goal

pub returns-in-Held-clause-value : goal.returns-in-Held-clause-value
returns-in-Held-clause-value g c =
    let view = g.V.Records.shown c.args.view.now in
    let user = c.args.user in
    let need = c.args.need.now in
    ap (λ (own : NeedState). both own (standing_in_slots (narrowed Public view) user need)) c.in-Held.ensures.value
    ∙ standing_in_slots-parts user need view

pub returns-then-need-clause-value : goal.returns-then-need-clause-value
returns-then-need-clause-value g c =
    let view = g.V.Records.shown c.args.view.now in
    let user = c.args.user in
    let need = c.args.need.now in
    let own = standing_in_slots (narrowed (User user) view) user need in
    c.in-Lost.ensures.value
    ∙ sym (both-lost own)
    ∙ ap (both own) (sym (standing_in_slots-public user need view c.if-need.true))
    ∙ standing_in_slots-parts user need view

pub returns-else-need-clause-value : goal.returns-else-need-clause-value
returns-else-need-clause-value g c =
    let view = g.V.Records.shown c.args.view.now in
    let user = c.args.user in
    let need = c.args.need.now in
    let own = standing_in_slots (narrowed (User user) view) user need in
    c.since.ensures
    ∙ ap (λ (standing : NeedState). both standing c.standing_by_public.result) c.in-Lost.ensures.value
    ∙ ap (both own) (c.standing_by_public.ensures.value ∙ ap (λ (v : View). standing_in_slots (narrowed Public v) user need) c.standing_by-own.ensures.same)
    ∙ standing_in_slots-parts user need view
