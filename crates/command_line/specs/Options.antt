-- The numbers among the words: the options of `run` and their rules, and the places that are asked of.
use Rattle.std.specs.Prelude.{◌&&◌, ℕ, Bool, List, [], ◌∷◌, Option, Some, None, bytes_eq, codes, false, if◌then◌else◌, nat_le, option_and_then, option_map, slice_get, true}
use Rattle.std.specs.Option.{option_map_or}
use Rattle.std.specs.Str.Parse.{digits_value, without_leading_plus}
use Rattle.clap.specs.ValueTests.{is_unsigned_in}
use Rattle.clap.specs.Walk.{Row, Rule, Text, first_of}
use Rattle.clap.specs.Simple.{App, new_rule, with_rule}
use Rattle.clap.specs.declared.builder.value_parser.ValueParser.TheVariants as vp
use Rattle.model_base.specs.declared.limits.TheConstants.{MOST_BATCH_STATEMENTS, MOST_KEPT_BATCHES, MOST_PARTITIONS, MOST_PLACES, MOST_WORKERS}
use Rattle.command_line.specs.declared.options.Choice.{Choice}
use Rattle.command_line.specs.declared.options.Limit.{Limit}
use Rattle.command_line.specs.declared.options.TheConstants.{MOST_AHEAD}
use Rattle.command_line.specs.declared.options.Progress.{Progress}
use Rattle.command_line.specs.declared.options.RowsAsked.{RowsAsked}

-- an option whose value is a number within these limits, with these defaults
abbrev pub number_rule : Text → ℕ → ℕ → List Text → Rule
number_rule name least most defaults = record (new_rule name) {
  long = Some name;
  value_names = 1;
  defaults = defaults;
  parser = Some (vp.Unsigned least most);
}

-- the command with the options of `run`
abbrev pub with_options : App → App
with_options run =
    let run = with_rule run (number_rule (codes "workers") 1 MOST_WORKERS []) in
    let run = with_rule run (number_rule (codes "partitions") 1 MOST_PARTITIONS []) in
    let run = with_rule run (number_rule (codes "batch") 1 MOST_BATCH_STATEMENTS (codes "1024" ∷ [])) in
    let run = with_rule run (number_rule (codes "keep") 0 MOST_KEPT_BATCHES (codes "1" ∷ [])) in
    with_rule run (number_rule (codes "ahead") 0 MOST_AHEAD [])

-- the number that a text gives, if it is one within these limits
abbrev pub number_within : ℕ → ℕ → Text → Option ℕ
number_within least most text =
    if is_unsigned_in least most text then Some (digits_value 10 (without_leading_plus text)) else None

-- and so the number that an option has
abbrev pub number_among : Text → ℕ → ℕ → List Row → Option ℕ
number_among name least most rows = option_and_then (number_within least most) (first_of name rows)

-- the number that a word gives, if there is a word, and if it is within these limits
abbrev pub choice_within : ℕ → ℕ → Option Text → Option Choice
choice_within least most None = Some Choice.Usual
choice_within least most (Some text) = option_map (λ number. Choice.Given number) (number_within least most text)

-- and so the number of an option, if it is given
abbrev pub choice_among : Text → ℕ → ℕ → List Row → Option Choice
choice_among name least most rows = choice_within least most (first_of name rows)

-- whether a number is given
abbrev pub is_given : Choice → Bool
is_given Choice.Usual = false
is_given (Choice.Given number) = true

-- the number that is given, or else the usual one
abbrev pub given_or : Choice → ℕ → ℕ
given_or Choice.Usual usual = usual
given_or (Choice.Given number) usual = number

-- of the number that is given, if one is
abbrev pub IfGiven : Choice → (ℕ → Type 0) → Type 0
IfGiven Choice.Usual P = Unit {0}
IfGiven (Choice.Given number) P = P number

-- whether the flag of this name is among the words
abbrev pub has_flag : Text → List Row → Bool
has_flag name rows = option_map_or (λ text. bytes_eq text (codes "true")) (first_of name rows) false

-- whether progress is shown, by the flags: where both are given it isn't
abbrev pub progress_among : List Row → Progress
progress_among rows =
    if has_flag (codes "no-progress") rows then Progress.Hidden
    else (if has_flag (codes "progress") rows then Progress.Shown else Progress.Usual)

-- the limit by the place that is given, or else the end of the log
abbrev pub limit_by : Choice → Limit
limit_by Choice.Usual = Limit.End
limit_by (Choice.Given place) = Limit.Before place

-- the limit that is asked for, if its place is at most this one
abbrev pub limit_among : ℕ → List Row → Option Limit
limit_among most rows = option_map limit_by (choice_among (codes "PLACE") 0 most rows)

-- the place of a limit, if one is named
abbrev pub place_named : Limit → Option ℕ
place_named Limit.End = None
place_named (Limit.Before place) = Some place

-- whether a word begins with a digit, as no name of a table does
abbrev pub starts_with_digit : Text → Bool
starts_with_digit word = option_map_or (λ code. nat_le 48 code && nat_le code 57) (slice_get word 0) false

-- the words for the table and for the place: a lone word that begins with a digit is the place
abbrev pub table_and_place : Option Text → Option Text → Option Text × Option Text
table_and_place (Some word) None = if starts_with_digit word then (None, Some word) else (Some word, None)
table_and_place (Some word) (Some place) = (Some word, Some place)
table_and_place None place = (None, place)

-- the table and the limit by these words, if the limit is within the limits
abbrev pub rows_of_words : Option Text × Option Text → Option (Option Text × Limit)
rows_of_words words = option_map (λ choice. (words.0, limit_by choice)) (choice_within 0 MOST_PLACES words.1)

-- and so by the words of `rows`
abbrev pub rows_among : List Row → Option (Option Text × Limit)
rows_among rows = rows_of_words (table_and_place (first_of (codes "TABLE") rows) (first_of (codes "PLACE") rows))

-- the table and the limit of the rows that are asked for
abbrev pub rows_named : RowsAsked → Option Text × Limit
rows_named asked = (option_map (λ word. word.now) asked.table, asked.limit)
