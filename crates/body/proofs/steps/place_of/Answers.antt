use Rattle.std.proofs.Common.{w64, sym, ◌∙◌, ap}
use Rattle.std.proofs.lemmas.Int.{to_z-of_z}
use Rattle.model_base.specs.declared.statement.Access.{Access}
use Rattle.model_base.specs.Privileges.{has_kind}
use Rattle.model_base.specs.Body.{row_number}
use Rattle.body.proofs.Touching.{place_found, place_unkind, place_none}
use Rattle.body.proofs.steps.place_of.Goals as goal

pub returns-then-contains-clause-place : goal.returns-then-contains-clause-place
returns-then-contains-clause-place c =
    let e = rw (to_z-of_z w64 c.number.result (record { sfits = c.number.type_inv }), c.number.ensures) at c.position.ensures in
    place_found c.args.accesses.now c.args.kind c.args.table (row_number c.args.registers.now c.args.row) c.in-Some.place c.index-accesses-place.result
    (sym e ∙ c.in-Some.is) c.index-accesses-place.is (ap (λ (a : Access). has_kind a.kinds c.args.kind) c.index-accesses-place.is ∙ sym c.contains.ensures ∙ c.if-contains.true)

pub returns-else-contains-clause-place : goal.returns-else-contains-clause-place
returns-else-contains-clause-place c =
    let e = rw (to_z-of_z w64 c.number.result (record { sfits = c.number.type_inv }), c.number.ensures) at c.position.ensures in
    place_unkind c.args.accesses.now c.args.kind c.args.table (row_number c.args.registers.now c.args.row) c.in-Some.place c.index-accesses-place.result
    (sym e ∙ c.in-Some.is) c.index-accesses-place.is (ap (λ (a : Access). has_kind a.kinds c.args.kind) c.index-accesses-place.is ∙ sym c.contains.ensures ∙ c.if-contains.false)

pub returns-in-None-clause-place : goal.returns-in-None-clause-place
returns-in-None-clause-place c =
    let e = rw (to_z-of_z w64 c.number.result (record { sfits = c.number.type_inv }), c.number.ensures) at c.position.ensures in
    place_none c.args.accesses.now c.args.kind c.args.table (row_number c.args.registers.now c.args.row) (sym e ∙ c.in-None.is)
