use Rattle.std.proofs.Common.{ℕ, List, [], map, sym, ◌∙◌, ap}
use Rattle.std.specs.Option.{option_to_list}
use Rattle.std.specs.List.{flat_map}
use Rattle.model_base.specs.Outcomes.{needs_of_access}
use Rattle.model_base.specs.Versions.{accesses_of}
use Rattle.model_base.specs.declared.deed.Need.{Need}
use Rattle.model_base.specs.declared.statement.Access.{Access}
use Rattle.placing.specs.Tables.{with_number, with_numbers}
use Rattle.placing.proofs.Once.{tables_found}
use Rattle.placing.proofs.tables.find_tables.Goals as goal

pub returns-in_ok-add_table-clause-tables : goal.returns-in_ok-add_table-clause-tables
returns-in_ok-add_table-clause-tables c =
    let form = c.args.statement.now.form in
    let table : Need → ℕ = λ (need : Need). need.table in
    let needed = λ (accesses : List Access). with_numbers [] (map table (flat_map needs_of_access accesses)) in
    c.in_ok-add_table.ensures.tables
    ∙ ap (λ tables. with_number tables c.in-Some.table)
    (c.in_ok-add_needs.ensures.tables
    ∙ ap (λ before. with_numbers before (map table (flat_map needs_of_access c.accesses.result.now))) c.requires
    ∙ ap needed c.accesses.ensures)
    ∙ ap (with_numbers (needed (accesses_of form))) (sym (ap option_to_list c.in-Some.is) ∙ c.deed_table.ensures)
    ∙ tables_found form

pub returns-in_default-clause-tables : goal.returns-in_default-clause-tables
returns-in_default-clause-tables c =
    let form = c.args.statement.now.form in
    let table : Need → ℕ = λ (need : Need). need.table in
    let needed = λ (accesses : List Access). with_numbers [] (map table (flat_map needs_of_access accesses)) in
    c.in_ok-add_needs.ensures.tables
    ∙ ap (λ before. with_numbers before (map table (flat_map needs_of_access c.accesses.result.now))) c.requires
    ∙ ap needed c.accesses.ensures
    ∙ ap (with_numbers (needed (accesses_of form))) (sym (ap option_to_list c.in_default.is) ∙ c.deed_table.ensures)
    ∙ tables_found form
