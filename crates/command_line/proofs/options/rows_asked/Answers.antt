use Rattle.std.proofs.Common.{Some, ap, ap₂, codes, ◌∙◌}
use Rattle.std.specs.Prelude.{option_map}
use Rattle.clap.specs.Words.{found_of}
use Rattle.clap.proofs.WalkLemmas.{first_value-rows}
use Rattle.command_line.specs.Options.{limit_by, rows_named, rows_of_words, table_and_place}
use Rattle.command_line.specs.declared.options.Choice.{Choice}
use Rattle.command_line.specs.declared.options.Limit.{Limit}
use Rattle.command_line.proofs.options.rows_asked.Goals as goal

pub returns-in-Some : goal.returns-in-Some
returns-in-Some c =
    let table = c.get_str.ensures ∙ first_value-rows (found_of c.args.found.now) (codes "TABLE") in
    let place = c.get_str-2.ensures ∙ first_value-rows (found_of c.args.found.now) (codes "PLACE") in
    ap (λ (limit : Limit). Some (rows_named (record { table = c.table_and_place.result.0; limit = limit }))) c.limit_by.ensures
    ∙ ap (option_map (λ (choice : Choice). rows_named (record { table = c.table_and_place.result.0; limit = limit_by choice }))) c.in-Some.ensures.choice
    ∙ ap rows_of_words (c.table_and_place.ensures ∙ ap₂ table_and_place table place)

pub returns-in-None : goal.returns-in-None
returns-in-None c =
    let table = c.get_str.ensures ∙ first_value-rows (found_of c.args.found.now) (codes "TABLE") in
    let place = c.get_str-2.ensures ∙ first_value-rows (found_of c.args.found.now) (codes "PLACE") in
    ap (option_map (λ (choice : Choice). rows_named (record { table = c.table_and_place.result.0; limit = limit_by choice }))) c.in-None.ensures.choice
    ∙ ap rows_of_words (c.table_and_place.ensures ∙ ap₂ table_and_place table place)
