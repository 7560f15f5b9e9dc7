use Rattle.std.proofs.Common.{◌≡◌, ◌++◌, take}
use Rattle.std.specs.List.{flat_map}
use Rattle.audit_text.specs.Drawn.{tables_drawn}
use Rattle.audit_text.specs.Graph.{owner_text}
use Rattle.audit_text.proofs.graph.put_tables.Given as goal

abbrev pub invariant-loop-table : goal.invariant-loop-table
invariant-loop-table l =
    l.text.items ≡ l.initial.text.items ++ flat_map (owner_text l.names.users l.names.tables) (tables_drawn l.place (take l.table l.tables))
