use Rattle.std.proofs.Common.{None, Some, ap, codes, inr, sym, ◌∙◌}
use Rattle.std.specs.Prelude.{option_map}
use Rattle.clap.specs.Words.{found_of, rows_of, subcommand_rows_of}
use Rattle.clap.proofs.WalkLemmas.{first_value-rows}
use Rattle.command_line.specs.Words.{asked, path_named, path_of}
use Rattle.command_line.specs.declared.command_words.Usage.{Usage}
use Rattle.command_line.specs.declared.command_words.Verb.{Verb}
use Rattle.command_line.proofs.Telling.{asks_as, entered, verb_as}
use Rattle.command_line.proofs.command_words.command_in.Goals as goal

pub returns-in-Ok-Some-clause-asks : goal.returns-in-Ok-Some-clause-asks
returns-in-Ok-Some-clause-asks c =
    let rows = rows_of (found_of c.in-Some.found.now) in
    let is = entered c.args.matches.now c.in-Some.name.now rows c.in-Some.ensures.name c.in-Some.ensures.rows in
    let file = c.source_of-source.ensures ∙ ap path_named (c.get_str-file.ensures ∙ first_value-rows (found_of c.in-Some.found.now) (codes "FILE")) in
    sym (asks_as (subcommand_rows_of c.args.matches.now) c.in-Some.name.now rows c.verb_of-verb.result (path_of c.source_of-source.result)
    (Some (asked c.in-Ok-Some.command)) is c.verb_of-verb.ensures file
    (ap (option_map asked) (sym c.in-Ok-Some.field-0-is) ∙ c.in-Ok-Some.ensures.asks))

pub returns-in-Ok-None-clause-misused : goal.returns-in-Ok-None-clause-misused
returns-in-Ok-None-clause-misused c =
    let rows = rows_of (found_of c.in-Some.found.now) in
    let is = entered c.args.matches.now c.in-Some.name.now rows c.in-Some.ensures.name c.in-Some.ensures.rows in
    let file = c.source_of-source.ensures ∙ ap path_named (c.get_str-file.ensures ∙ first_value-rows (found_of c.in-Some.found.now) (codes "FILE")) in
    let given = subcommand_rows_of c.args.matches.now in
    inr (
      ap (λ (verb : Verb). Usage.Misused verb) (verb_as given c.in-Some.name.now rows c.verb_of-verb.result is c.verb_of-verb.ensures),
      sym (asks_as given c.in-Some.name.now rows c.verb_of-verb.result (path_of c.source_of-source.result) None is c.verb_of-verb.ensures file
          (ap (option_map asked) (sym c.in-Ok-None.field-0-is) ∙ c.in-Ok-None.ensures.asks)),
    )
