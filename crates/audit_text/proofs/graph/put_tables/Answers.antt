use Rattle.std.proofs.Common.{◌≡◌, ◌++◌, ℕ, List, [], if◌then◌else◌, rules}
use Rattle.std.specs.Prelude.{nat_lt}
use Rattle.grants_base.specs.declared.entries.Creation.{Creation}
use Rattle.audit_text.specs.Graph.{owner_text}
use Rattle.audit_text.proofs.Lines.{tables-more}
use Rattle.audit_text.proofs.graph.put_tables.Goals as goal
use Rattle.audit_text.proofs.graph.put_tables.Goals.{then-creation-place+in_ok-put_owner, else-creation-place}

pub loop-table-preserved : goal.loop-table-preserved
loop-table-preserved c =
    let spell : ℕ × Creation → List ℕ = owner_text c.args.names.now.users c.args.names.now.tables in
    let creation : Creation = c.index-tables-table.result in
    let put : c.if-creation-place.text.items ≡ c.loop-table.text.items ++ (if nat_lt creation.place c.args.place then spell (c.loop-table.table, creation) else []) =
    elim c.if-creation-place.branch [
      | then-creation-place+in_ok-put_owner w ↦ search rules
      | else-creation-place w ↦ search rules
    ] in
    tables-more spell c.args.place c.args.tables.now c.loop-table.table creation
    c.args.text.now.items c.loop-table.text.items c.if-creation-place.text.items c.loop-table-test.true c.index-tables-table.is
    c.loop-table.invariant put
