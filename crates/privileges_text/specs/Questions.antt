-- Who holds a privilege before a place of the text of a log, and when a user held one.
use Rattle.std.specs.Prelude.{◌≡◌, ℕ, Bool, List, None, Option}
use Rattle.model_base.specs.declared.deed.Kind.{Kind}
use Rattle.sequencer.specs.Log.{Accepted}
use Rattle.sequencer.specs.Names.{known_number}
use Rattle.audit_text.specs.RowsBefore.{IsLogBefore}
use Rattle.privileges_text.specs.HistoryText.{TellsHistory}
use Rattle.privileges_text.specs.HoldersText.{ListsHolders}

-- the text lists who holds the kind on the table of the name before the place of the log that the lines of the input make
abbrev pub IsHolders : List ℕ → Kind → List ℕ → Option ℕ → List ℕ → Type 0
IsHolders input kind name limit text = (log : Accepted) × (IsLogBefore input limit log × ListsHolders log kind name text)

-- the text tells when the user held the kind on the table of the name, by the log that the lines of the input make
abbrev pub IsHistory : List ℕ → List ℕ → Kind → List ℕ → Bool → List ℕ → Type 0
IsHistory input user kind name option text =
    (log : Accepted) × (IsLogBefore input None log × TellsHistory log user kind name option text)

-- no statement of the log that the lines of the input make names a user so
abbrev pub LacksUser : List ℕ → List ℕ → Type 0
LacksUser input user = (log : Accepted) × (IsLogBefore input None log × (known_number log.names.users user ≡ None))
