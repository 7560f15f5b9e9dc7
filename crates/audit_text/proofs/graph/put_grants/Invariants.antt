use Rattle.std.proofs.Common.{◌≡◌, ◌++◌, take}
use Rattle.std.specs.List.{flat_map}
use Rattle.audit_text.specs.Drawn.{drawn}
use Rattle.audit_text.specs.Graph.{edge_text}
use Rattle.audit_text.proofs.graph.put_grants.Given as goal

abbrev pub invariant-loop-entry : goal.invariant-loop-entry
invariant-loop-entry l =
    l.text.items ≡ l.initial.text.items ++ flat_map (edge_text l.names.users l.names.tables l.place) (drawn l.place (take l.entry-index l.records))
