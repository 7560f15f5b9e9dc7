-- How the holders of a privilege are spelled.
use Rattle.std.specs.Prelude.{◌≡◌, ◌++◌, ℕ, Bool, true, false, List, [], Some, codes, length, slice_get, if◌then◌else◌}
use Rattle.std.specs.List.{flat_map}
use Rattle.model_base.specs.Outcomes.{deeds_before, owners}
use Rattle.model_base.specs.Privileges.{holds}
use Rattle.model_base.specs.declared.deed.Kind.{Kind}
use Rattle.model_base.specs.declared.deed.Need.{Need}
use Rattle.sequencer.specs.Log.{Accepted}
use Rattle.sequencer.specs.Names.{known_number}
use Rattle.report.specs.Text.{table_name}
use Rattle.privileges.specs.Holders.{AreHolders, is_given_to_all}
use Rattle.privileges_text.specs.declared.ways.UserNeed.{UserNeed}
use Rattle.privileges_text.specs.Ways.{way_ending}

-- the same need with the option
abbrev pub with_option : Need → Need
with_option need = record { table = need.table; kind = need.kind; option = true }

-- a user, and whether the option is spoken of; users have names as tables have
abbrev pub called_text : Accepted → ℕ → Bool → List ℕ
called_text log user option = table_name log.names.users user ++ (if option then codes " option" else [])

-- the line of a user who holds the need at the end of the log
abbrev pub holder_text : Accepted → ℕ → Need → List ℕ
holder_text log user need =
    called_text log user need.option ++ way_ending log (length log.statements) (record { user = user; need = need })

-- the line of a user with the option, where that is held
abbrev pub option_text : Accepted → Need → ℕ → List ℕ
option_text log need user =
    if holds (owners log.statements) (deeds_before log.statements (length log.statements)) user (with_option need)
    then holder_text log user (with_option need)
    else []

-- the lines of a holder
abbrev pub holder_lines : Accepted → Need → ℕ → List ℕ
holder_lines log need user = option_text log need user ++ holder_text log user need

-- the line of PUBLIC, where a grant to it gives the need: the way is that of a user to whom nothing is granted, as the log has no such user
abbrev pub public_line : Accepted → Need → List ℕ
public_line log need =
    if is_given_to_all (owners log.statements) (deeds_before log.statements (length log.statements)) need
    then codes "PUBLIC" ++ way_ending log (length log.statements) (record { user = length log.names.users; need = need })
    else []

-- the text has a line for the owner of the table, the lines of each holder by number, and that of PUBLIC
pub record ListsHoldersOf (log : Accepted) (need : Need) (text : List ℕ) : Type 0 where
  pub owner : ℕ
  pub owned : slice_get (owners log.statements) need.table ≡ Some owner
  pub users : List ℕ
  pub holders : AreHolders (owners log.statements) (deeds_before log.statements (length log.statements)) need users
  pub told : text ≡ holder_text log owner need ++ flat_map (holder_lines log need) users ++ public_line log need

-- so it does for the table of a name
abbrev pub ListsHolders : Accepted → Kind → List ℕ → List ℕ → Type 0
ListsHolders log kind name text =
    (table : ℕ) × ((known_number log.names.tables name ≡ Some table)
    × ListsHoldersOf log (record { table = table; kind = kind; option = false }) text)
