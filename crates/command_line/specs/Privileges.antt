-- The words that ask who holds a privilege, and when a user held one.
use Rattle.std.specs.Prelude.{ℕ, Bool, List, None, Option, Some, bytes_eq, codes, false, if◌then◌else◌, option_and_then, option_map, true}
use Rattle.clap.specs.Words.{Row, Text, first_of}
use Rattle.model_base.specs.declared.deed.Kind.{Kind}
use Rattle.model_base.specs.declared.limits.TheConstants.{MOST_PLACES}
use Rattle.log_text.specs.Fault.{kind_named}
use Rattle.privileges_text.specs.declared.asking.HistoryAsked.{HistoryAsked}
use Rattle.privileges_text.specs.declared.asking.HoldersAsked.{HoldersAsked}
use Rattle.command_line.specs.Options.{limit_among, place_named}

-- the kind that the word KIND names, as in a log
abbrev pub kind_among : List Row → Option Kind
kind_among rows = option_and_then kind_named (first_of (codes "KIND") rows)

-- whether the grant option is asked for: by the last word, if there is one
abbrev pub option_told : Option Text → Option Bool
option_told None = Some false
option_told (Some word) = if bytes_eq word (codes "OPTION") then Some true else None

-- the kind, the table and the limit that the words of `holders` name
abbrev pub holders_among : List Row → Option (Kind × Text × Option ℕ)
holders_among rows =
    option_and_then (λ kind. option_and_then (λ table. option_map (λ limit. (kind, table, place_named limit))
    (limit_among MOST_PLACES rows))
    (first_of (codes "TABLE") rows))
    (kind_among rows)

-- the user, the kind, the table and the option that the words of `history` name
abbrev pub history_among : List Row → Option (Text × Kind × Text × Bool)
history_among rows =
    option_and_then (λ user. option_and_then (λ kind. option_and_then (λ table. option_map (λ option. (user, kind, table, option))
    (option_told (first_of (codes "OPTION") rows)))
    (first_of (codes "TABLE") rows))
    (kind_among rows))
    (first_of (codes "USER") rows)

-- what is asked of the holders
abbrev pub holders_named : HoldersAsked → Kind × Text × Option ℕ
holders_named which = (which.kind, which.table.now, which.limit)

-- and of the history
abbrev pub history_named : HistoryAsked → Text × Kind × Text × Bool
history_named which = (which.user.now, which.kind, which.table.now, which.option)
