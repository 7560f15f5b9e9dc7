use Rattle.std.proofs.Common.{◌<◌, length, Some, None, arith, refl, sym, ◌∙◌, ap, List, ℤ}
use Rattle.model_base.specs.declared.deed.Kind.TheVariants.{Insert}
use Rattle.model_base.specs.Rows.{with_row}
use Rattle.model_base.specs.Body.{row_number, insert_row, goes_on}
use Rattle.body.specs.Shown.{with_rows}
use Rattle.body.specs.Work.{seen}
use Rattle.body.proofs.Touching.{touch_any, touch_write}
use Rattle.body.proofs.steps.insert.Goals as goal

pub returns-in-Some-row-clause-effect : goal.returns-in-Some-row-clause-effect
returns-in-Some-row-clause-effect c = λ rows.
    let within : c.in-Some.place < length c.args.window.now.rows = omega (arith, c.row.ensures.whole, c.requires, c.in-Some.ensures.within) in
    let m = seen c.args.accesses.now rows c.args.window.now c.args.registers.now in
    sym (touch_any rows c.args.window.now.rows c.args.registers.now c.args.window.now.outputs c.args.accesses.now Insert c.args.table (row_number c.args.registers.now c.args.row)
    (insert_row m c.args.table c.args.from.now)
    c.in-Some.place c.row.result.now _ c.in-Some.ensures.place within c.row.ensures.row (λ row. rw c.in-Some-row.is refl))

pub returns-in-None-row-clause-effect : goal.returns-in-None-row-clause-effect
returns-in-None-row-clause-effect c = λ rows.
    let m = seen c.args.accesses.now rows c.args.window.now c.args.registers.now in
    let within : c.in-Some.place < length c.args.window.now.rows = omega (arith, c.row.ensures.whole, c.requires, c.in-Some.ensures.within) in
    let e = rw c.as_slice.ensures at c.gathered.ensures in
    touch_write rows c.args.window.now.rows c.args.registers.now c.args.window.now.outputs c.args.accesses.now Insert c.args.table (row_number c.args.registers.now c.args.row)
    (insert_row m c.args.table c.args.from.now)
    c.in-Some.place None (Some c.gathered.result) c.set.new.self.rows c.set.new.self.outputs c.in-Some.ensures.place within (sym c.in-None-row.is ∙ c.row.ensures.row)
    (λ row. ap (λ (v : List ℤ). goes_on (record { rows = with_row (with_rows c.args.accesses.now c.args.window.now.rows rows) c.args.table row (Some v); registers = c.args.registers.now; outputs = c.args.window.now.outputs }) 0) (sym e))
    c.set.ensures.rows c.set.ensures.outputs
