use Rattle.std.proofs.Common.{Some, None, refl, sym, ◌∙◌}
use Rattle.body.proofs.Entries.{rows_kept, entries_kept, entries_elsewhere, absent}
use Rattle.body.proofs.row_map.RowMapRowStore.reserve_row.Goals as goal

pub returns-in_ok-insert-clause-rows : goal.returns-in_ok-insert-clause-rows
returns-in_ok-insert-clause-rows c =
    rows_kept c.args.self.now (record { entries = c.insert.new.self }) c.args.key.table c.args.key.row (Some None)
    c.in_ok-insert.ensures.updates.0
    (absent c.args.self.now c.args.key.table c.args.key.row (sym c.contains_key.ensures ∙ c.if-not-contains_key.true))

pub returns-in_ok-insert-clause-keeps_room : goal.returns-in_ok-insert-clause-keeps_room
returns-in_ok-insert-clause-keeps_room c =
    entries_kept c.args.self.now (record { entries = c.insert.new.self }) c.args.key.table c.args.key.row (Some None)
    c.in_ok-insert.ensures.updates.0 refl

pub returns-in_ok-insert-clause-elsewhere : goal.returns-in_ok-insert-clause-elsewhere
returns-in_ok-insert-clause-elsewhere c =
    entries_elsewhere c.args.self.now (record { entries = c.insert.new.self }) c.args.key.table c.args.key.row (Some None)
    c.in_ok-insert.ensures.updates.0
