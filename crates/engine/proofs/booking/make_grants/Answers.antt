use Rattle.std.proofs.Common.{◌≡◌, ◌∷◌, List, ap, ◌∙◌, subst, arith}
use Rattle.model_base.specs.declared.deed.Deed.{Deed}
use Rattle.model_base.specs.declared.deed.Deed.TheVariants.{Granting}
use Rattle.grants_base.specs.Book.{cut_book}
use Rattle.engine.specs.RunState.{IsMaking}
use Rattle.filling.proofs.Cutting.{cut_granted}
use Rattle.filling.proofs.Making.{here, is_held, making_next, may_next, on_table}
use Rattle.engine.proofs.booking.make_grants.Goals as goal

pub grant-requires-clause-later : goal.grant-requires-clause-later
grant-requires-clause-later g c =
    let log = g.log.statements in
    let left : List Deed = c.next.new.self in
    let split : c.grants.rest ≡ Granting c.in-Some-Granting.grant ∷ left = c.in-Some-Granting.ensures ∙ ap (λ (d : Deed). d ∷ left) c.in-Some-Granting.field-0-is in
    may_next log c.args.place c.grants.book c.in-Some-Granting.grant left
    (subst (λ (ds : List Deed). IsMaking log c.args.place ds c.grants.book) split c.grants.invariant.making)

pub grant-requires-clause-table : goal.grant-requires-clause-table
grant-requires-clause-table g c =
    let log = g.log.statements in
    let left : List Deed = c.next.new.self in
    let split : c.grants.rest ≡ Granting c.in-Some-Granting.grant ∷ left = c.in-Some-Granting.ensures ∙ ap (λ (d : Deed). d ∷ left) c.in-Some-Granting.field-0-is in
    on_table log c.args.place c.grants.book c.in-Some-Granting.grant left
    (subst (λ (ds : List Deed). IsMaking log c.args.place ds c.grants.book) split c.grants.invariant.making)

pub grant-requires-clause-held : goal.grant-requires-clause-held
grant-requires-clause-held g c =
    let log = g.log.statements in
    let left : List Deed = c.next.new.self in
    let split : c.grants.rest ≡ Granting c.in-Some-Granting.grant ∷ left = c.in-Some-Granting.ensures ∙ ap (λ (d : Deed). d ∷ left) c.in-Some-Granting.field-0-is in
    is_held log c.args.place c.grants.book c.in-Some-Granting.grant left
    (subst (λ (ds : List Deed). IsMaking log c.args.place ds c.grants.book) split c.grants.invariant.making)

pub grants-preserved : goal.grants-preserved
grants-preserved g c =
    let log = g.log.statements in
    let grant = c.in-Some-Granting.grant in
    let left : List Deed = c.next.new.self in
    let split : c.grants.rest ≡ Granting grant ∷ left = c.in-Some-Granting.ensures ∙ ap (λ (d : Deed). d ∷ left) c.in-Some-Granting.field-0-is in
    let making = subst (λ (ds : List Deed). IsMaking log c.args.place ds c.grants.book) split c.grants.invariant.making in
    let at = here log c.args.place c.grants.book grant left making in
    let made = c.in_ok-grant.ensures in
    record {
      making = making_next log c.args.place c.grants.book grant left making c.grant.new.self made.ok made.after made.next made.later;
      cut = λ first low. ap (cut_book first) made.ok ∙ cut_granted first c.grants.book grant (omega (arith, low, at)) ∙ c.grants.invariant.cut first low;
    }
