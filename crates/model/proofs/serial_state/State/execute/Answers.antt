-- The place is judged by the first missing need, which was found by the grants in force.
use Rattle.std.proofs.Common.{◌≡◌, List, Some, None, IfOk, sym, ap, ◌∙◌, subst}
use Rattle.model_base.specs.declared.deed.Cause.{Cause}
use Rattle.model_base.specs.declared.deed.Deed.{Deed}
use Rattle.model_base.specs.declared.outcome.Outcome.{Outcome}
use Rattle.model_base.specs.Outcomes.{World, cause}
use Rattle.model_base.specs.Privileges.{kept}
use Rattle.model.specs.State.{world_of}
use Rattle.model.proofs.Judging.{at_place-judged}
use Rattle.model.proofs.serial_state.State.execute.Goals as goal

pub returns-in-Some : goal.returns-in-Some
returns-in-Some c =
    let owners = c.args.owners.now in
    let user = c.args.statement.now.user in
    let world = world_of c.args.self.now in
    at_place-judged owners c.args.place world c.args.statement.now c.in_ok-grants.grants.items (Some c.in-Some.need)
    c.in_default.not-Create (c.in_ok-grants.ensures ∙ ap (kept owners) c.deref.ensures.value)
    (rw c.deref-2.ensures.value at c.in-Some.ensures)
    ∙ ap (λ (why : Cause). (Outcome.Denied c.in-Some.need why, world))
    (sym (c.in_ok-cause-in-Some.ensures ∙ ap (λ (deeds : List Deed). cause owners deeds user c.in-Some.need) c.deref-in-Some.ensures.value))

pub returns : goal.returns
returns c =
    let owners = c.args.owners.now in
    let world = world_of c.args.self.now in
    let same = at_place-judged owners c.args.place world c.args.statement.now c.in_ok-grants.grants.items None
    c.in_default.not-Create (c.in_ok-grants.ensures ∙ ap (kept owners) c.deref.ensures.value)
    (rw c.deref-2.ensures.value at c.in-None.ensures) in
    let P : Outcome × World → Type 0 = λ come. IfOk c.run.result (λ outcome. come ≡ (outcome, world_of c.run.new.self)) in
    subst P (sym same) c.run.ensures
