use Rattle.std.proofs.Common.{◌≡◌, ◌++◌, take}
use Rattle.audit_text.specs.RowsText.{rows_text}
use Rattle.audit_text.proofs.rows.put_rows.Given as goal

abbrev pub invariant-loop-row : goal.invariant-loop-row
invariant-loop-row l = l.text.items ≡ l.initial.text.items ++ rows_text l.tables l.table (take l.row-index l.rows)
