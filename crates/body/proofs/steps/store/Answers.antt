use Rattle.std.proofs.Common.{◌<◌, length, w64, Some, None, arith, refl, sym, ◌∙◌, ap, set, List, ℤ}
use Rattle.std.proofs.lemmas.Int.{to_z-of_z}
use Rattle.model_base.specs.declared.deed.Kind.TheVariants.{Update}
use Rattle.model_base.specs.Rows.{with_row}
use Rattle.model_base.specs.Body.{row_number, store_column, goes_on}
use Rattle.body.specs.Shown.{with_rows}
use Rattle.body.specs.Work.{seen}
use Rattle.body.proofs.Touching.{touch_any, touch_write}
use Rattle.body.proofs.steps.store.Goals as goal

pub returns-then-set_column-clause-effect : goal.returns-then-set_column-clause-effect
returns-then-set_column-clause-effect c = λ rows.
    let m = seen c.args.accesses.now rows c.args.window.now c.args.registers.now in
    let within : c.in-Some.place < length c.args.window.now.rows = omega (arith, c.set_column.ensures.whole, c.requires, c.in-Some.ensures.within) in
    let found = c.if-set_column.ensures.some.0 in
    let e = ap (set found c.args.cell.column) (to_z-of_z w64 c.read.result (record { sfits = c.read.type_inv }) ∙ c.read.ensures) in
    touch_write rows c.args.window.now.rows c.args.registers.now c.args.window.now.outputs c.args.accesses.now Update c.args.cell.table (row_number c.args.registers.now c.args.cell.row)
    (store_column m c.args.cell.table c.args.cell.column c.args.from)
    c.in-Some.place (Some found) _ c.set_column.new.self.rows c.set_column.new.self.outputs c.in-Some.ensures.place within (sym c.if-set_column.ensures.some.1)
    (λ row. ap (λ (v : List ℤ). goes_on (record { rows = with_row (with_rows c.args.accesses.now c.args.window.now.rows rows) c.args.cell.table row (Some v); registers = c.args.registers.now; outputs = c.args.window.now.outputs }) 0) (sym e))
    c.if-set_column.ensures.some.2 c.set_column.ensures.outputs

pub returns-else-set_column-clause-effect : goal.returns-else-set_column-clause-effect
returns-else-set_column-clause-effect c = λ rows.
    let m = seen c.args.accesses.now rows c.args.window.now c.args.registers.now in
    let within : c.in-Some.place < length c.args.window.now.rows = omega (arith, c.set_column.ensures.whole, c.requires, c.in-Some.ensures.within) in
    sym (touch_any rows c.args.window.now.rows c.args.registers.now c.args.window.now.outputs c.args.accesses.now Update c.args.cell.table (row_number c.args.registers.now c.args.cell.row)
    (store_column m c.args.cell.table c.args.cell.column c.args.from)
    c.in-Some.place None _ c.in-Some.ensures.place within (sym c.if-set_column.ensures.none.0) (λ row. refl))
