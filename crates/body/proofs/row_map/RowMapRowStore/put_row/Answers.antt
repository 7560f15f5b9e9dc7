use Rattle.std.proofs.Common.{Some, refl, sym, ap}
use Rattle.std.specs.Prelude.{is_some}
use Rattle.body.proofs.Entries.{rows_put, entries_kept, no_more}
use Rattle.body.proofs.row_map.RowMapRowStore.put_row.Goals as goal

pub returns-in-Some-clause-rows : goal.returns-in-Some-clause-rows
returns-in-Some-clause-rows c =
    rows_put c.args.self.now (record { entries = c.get_mut.follows.lender c.args.row.now }) c.args.key.table c.args.key.row
    (Some c.args.row.now)
    ((c.get_mut.follows.holds c.args.row.now).3 (ap is_some (sym c.in-Some.ensures.value))).0

pub returns-in-Some-clause-keeps_room : goal.returns-in-Some-clause-keeps_room
returns-in-Some-clause-keeps_room c =
    entries_kept c.args.self.now (record { entries = c.get_mut.follows.lender c.args.row.now }) c.args.key.table c.args.key.row
    (Some c.args.row.now)
    ((c.get_mut.follows.holds c.args.row.now).3 (ap is_some (sym c.in-Some.ensures.value))).0 refl

pub returns-in-Some-clause-no_more : goal.returns-in-Some-clause-no_more
returns-in-Some-clause-no_more c =
    no_more c.args.self.now (record { entries = c.get_mut.follows.lender c.args.row.now }) c.args.key.table c.args.key.row
    (Some c.args.row.now)
    ((c.get_mut.follows.holds c.args.row.now).3 (ap is_some (sym c.in-Some.ensures.value))).0
    (λ _. ap is_some (sym c.in-Some.ensures.value))
