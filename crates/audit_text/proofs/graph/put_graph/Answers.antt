use Rattle.std.proofs.Common.{◌++◌, List, codes, ◌∙◌, ap}
use Rattle.std.specs.List.{flat_map}
use Rattle.model_base.specs.declared.deed.Record.{Record}
use Rattle.grants_base.specs.declared.entries.Creation.{Creation}
use Rattle.audit_text.specs.Drawn.{tables_drawn}
use Rattle.audit_text.specs.Graph.{edges_text, owner_text}
use Rattle.audit_text.proofs.Lines.{in_four}
use Rattle.audit_text.proofs.graph.put_graph.Goals as goal

pub returns : goal.returns
returns c =
    let users = c.args.names.now.users in
    let tables = c.args.names.now.tables in
    let place = c.args.place in
    let book = c.args.book.now in
    let start = c.args.text.now.items in
    let head = codes "digraph grants {\n" in
    let foot = codes "}\n" in
    in_four start head (flat_map (owner_text users tables) (tables_drawn place c.tables.result.now)) (edges_text users tables place c.records.result.now) foot
    c.in_ok-extend_from_slice.ensures.items c.in_ok-put_tables.ensures c.in_ok-put_granted.ensures c.in_ok-extend_from_slice-2.ensures.items
    ∙ ap (λ (created : List Creation).
    start ++ (((head ++ flat_map (owner_text users tables) (tables_drawn place created)) ++ edges_text users tables place c.records.result.now) ++ foot)) c.tables.ensures.tables
    ∙ ap (λ (entries : List Record).
    start ++ (((head ++ flat_map (owner_text users tables) (tables_drawn place book.tables)) ++ edges_text users tables place entries) ++ foot)) c.records.ensures.records
