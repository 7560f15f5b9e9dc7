use Rattle.std.proofs.Common.{◌≡◌, true, false, Some, None, sym, ◌∙◌, ap}
use Rattle.std.specs.Prelude.{is_some}
use Rattle.body.proofs.Entries.{rows_kept, no_more, entry_at, shown}
use Rattle.body.proofs.row_map.RowMapRowStore.release_row.Goals as goal

pub returns-in-Some-None-clause-rows : goal.returns-in-Some-None-clause-rows
returns-in-Some-None-clause-rows c =
    rows_kept c.args.self.now (record { entries = c.remove.new.self }) c.args.key.table c.args.key.row None
    c.remove.ensures.updates.0
    (shown c.args.self.now c.args.key.table c.args.key.row None (ap Some (sym c.in-Some-None.field-0-is) ∙ c.in-Some-None.ensures.value))

pub returns-in-Some-None-clause-released : goal.returns-in-Some-None-clause-released
returns-in-Some-None-clause-released c = λ has.
    let none = entry_at c.args.self.now (record { entries = c.remove.new.self }) c.args.key.table c.args.key.row None c.remove.ensures.updates.0 in
    let no : true ≡ false = sym has ∙ ap is_some none in
    cc

pub returns-in-Some-None-clause-no_more : goal.returns-in-Some-None-clause-no_more
returns-in-Some-None-clause-no_more c =
    no_more c.args.self.now (record { entries = c.remove.new.self }) c.args.key.table c.args.key.row None
    c.remove.ensures.updates.0 (λ some. let no : false ≡ true = some in cc)
