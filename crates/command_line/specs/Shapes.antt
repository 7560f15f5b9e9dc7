-- The program's words, as they are described to `clap`: its subcommands, their arguments and options.
use Rattle.std.specs.Prelude.{List, Some, codes, map, true}
use Rattle.clap.specs.Words.{App, Rule, Text, new_app, new_rule, with_rule, with_subcommand}
use Rattle.clap.specs.declared.builder.action.ArgAction.TheVariants.{Append, SetTrue}
use Rattle.clap.specs.declared.builder.value_parser.ValueParser.TheVariants as vp
use denote.Ref.{Bor}
use Rattle.command_line.specs.Options.{with_options}
use Rattle.model_base.specs.declared.limits.TheConstants.{MOST_PLACES}
use Rattle.command_line.specs.declared.options.TheConstants.{MOST_PLACE}

-- a word that has to be there
abbrev pub required_rule : Text → Rule
required_rule name = record (new_rule name) { required = true }

-- a word that is a place
abbrev pub place_rule : Rule → Rule
place_rule word = record word { parser = Some (vp.Unsigned 0 MOST_PLACE) }

-- a flag by its name
abbrev pub flag_rule : Text → Rule
flag_rule name = record (new_rule name) {
  long = Some name;
  action = Some SetTrue;
}

-- the command with the flags for progress
abbrev pub with_progress : App → App
with_progress command = with_rule (with_rule command (flag_rule (codes "progress"))) (flag_rule (codes "no-progress"))

-- `run` may have one word, FILE, its options, and a flag of its own
abbrev pub run_app : App
run_app = with_rule (with_options (with_rule (new_app (codes "run")) (new_rule (codes "FILE")))) (flag_rule (codes "summary"))

-- a subcommand of this name that has to have FILE, as `serial` is
abbrev pub over_file : Text → App
over_file name = with_rule (new_app name) (required_rule (codes "FILE"))

-- a word PLACE that may be there several times
abbrev pub places_rule : Rule
places_rule = record (place_rule (new_rule (codes "PLACE"))) { action = Some Append }

-- `explain` has to have FILE, may have PLACE once or more, and two flags of its own
abbrev pub explain_app : App
explain_app =
    let explain = with_rule (over_file (codes "explain")) places_rule in
    with_rule (with_rule explain (flag_rule (codes "check"))) (flag_rule (codes "denied"))

-- `grants` has to have FILE, and may have PLACE
abbrev pub grants_app : App
grants_app = with_rule (over_file (codes "grants")) (place_rule (new_rule (codes "PLACE")))

-- a word that is how many places stand before one
abbrev pub limit_rule : Rule
limit_rule = record (new_rule (codes "PLACE")) { parser = Some (vp.Unsigned 0 MOST_PLACES) }

-- `rows` has to have FILE, and may have TABLE and PLACE
abbrev pub rows_app : App
rows_app = with_rule (with_rule (over_file (codes "rows")) (new_rule (codes "TABLE"))) limit_rule

-- `holders` has to have FILE, KIND and TABLE, and may have PLACE
abbrev pub holders_app : App
holders_app =
    let holders = with_rule (over_file (codes "holders")) (required_rule (codes "KIND")) in
    with_rule (with_rule holders (required_rule (codes "TABLE"))) limit_rule

-- `history` has to have FILE, USER, KIND and TABLE, and may have OPTION
abbrev pub history_app : App
history_app =
    let history = with_rule (over_file (codes "history")) (required_rule (codes "USER")) in
    let history = with_rule (with_rule history (required_rule (codes "KIND"))) (required_rule (codes "TABLE")) in
    with_rule history (new_rule (codes "OPTION"))

-- a log is run, by the executor or the reference executor, or for the counts of its report
abbrev pub with_runs : App → App
with_runs app =
    let app = with_subcommand app (with_progress run_app).top in
    let app = with_subcommand app (with_progress (over_file (codes "serial"))).top in
    with_subcommand app (with_progress (over_file (codes "summary"))).top

-- or it is asked what stands before a place of it
abbrev pub with_questions : App → App
with_questions app =
    let app = with_subcommand app (with_progress explain_app).top in
    let app = with_subcommand app (with_progress grants_app).top in
    with_subcommand app (with_progress rows_app).top

-- or who holds a privilege, and who held it
abbrev pub with_privileges : App → App
with_privileges app =
    let app = with_subcommand app (with_progress holders_app).top in
    with_subcommand app (with_progress history_app).top

-- the program has a version and these eight subcommands, one of which has to be there; each may have the flags for progress
abbrev pub bohm_app : App
bohm_app =
    let app = with_privileges (with_questions (with_runs (new_app (codes "bohm")))) in
    record app { top = record app.top { has_version = true; subcommand_required = true } }

-- the texts of some words
abbrev pub texts_of : List (Bor Text) → List Text
texts_of words = map (λ word. word.now) words
