-- How the report spells what becomes of a line.
use Rattle.std.specs.Prelude.{◌≡◌, ℕ, Option, Some, None, ◌+◌, ◌<◌, ℤ, List, [], ◌∷◌, ◌++◌, length, map, codes, unwrap_or, slice_get, if◌then◌else◌, Vec, vec_capacity, vec_len}
use Rattle.std.specs.declared.alloc.Global.{Global}
use Rattle.std.specs.Fmt.{decimal, signed_decimal}
use Rattle.std.specs.List.{flat_map}
use Rattle.model_base.specs.declared.deed.Cause.{Cause}
use Rattle.model_base.specs.declared.deed.Cause.TheVariants.{Never, Taken}
use Rattle.model_base.specs.declared.deed.Grantee.{Grantee}
use Rattle.model_base.specs.declared.deed.Need.{Need}
use Rattle.model_base.specs.declared.statement.Form.{Form}
use Rattle.model_base.specs.declared.statement.Statement.{Statement}
use Rattle.model_base.specs.declared.outcome.Reason.{Reason}
use Rattle.model_base.specs.declared.outcome.Reason.TheVariants.{NoRow, RowExists, Overflow, Check}
use Rattle.model_base.specs.declared.outcome.DeedDone.{DeedDone}
use Rattle.model_base.specs.declared.outcome.Outcome.{Outcome}
use Rattle.model_base.specs.Ranks.{place_of_rank}
use Rattle.model_base.specs.RecordNames.{kind_of_rank}
use Rattle.model_base.specs.RecordGrantees.{grantee_at}
use Rattle.log_text.specs.Statement.{kind_word}
use Rattle.log_text.specs.declared.version.Version.{Version}
use Rattle.line_words.specs.declared.fault.LineFault.{LineFault}
use Rattle.sequencer.specs.Catalog.{Names}
use Rattle.sequencer.specs.declared.refused.Refused.{Refused}

-- the word of a line's fault; out of memory is no line's fault, and has none
abbrev pub fault_word : LineFault → List ℕ
fault_word LineFault.TooLong = codes "too-long"
fault_word LineFault.NotAscii = codes "not-ascii"
fault_word LineFault.Empty = codes "empty"
fault_word LineFault.UnknownWord = codes "unknown-word"
fault_word LineFault.BadNumber = codes "bad-number"
fault_word LineFault.BadName = codes "bad-name"
fault_word LineFault.TooManySteps = codes "too-many-steps"
fault_word LineFault.TooManyAccesses = codes "too-many-accesses"
fault_word LineFault.BadRegister = codes "bad-register"
fault_word LineFault.TooManyGrantees = codes "too-many-grantees"
fault_word LineFault.DuplicateGrantee = codes "duplicate-grantee"
fault_word LineFault.NoMemory = []

-- the word of the log's refusal; out of memory has none
abbrev pub refused_word : Refused → List ℕ
refused_word Refused.UnknownTable = codes "unknown-table"
refused_word Refused.TableExists = codes "table-exists"
refused_word Refused.BadColumns = codes "bad-columns"
refused_word Refused.DuplicateAccess = codes "duplicate-access"
refused_word Refused.BadColumnNumber = codes "bad-column-number"
refused_word Refused.SkipPastEnd = codes "skip-past-end"
refused_word Refused.LogFull = codes "log-full"
refused_word Refused.TooManyNames = codes "too-many-names"
refused_word Refused.NoMemory = []

-- the report's line for a line of the log that isn't accepted
abbrev pub refused_text : ℕ → List ℕ → List ℕ
refused_text number word = codes "line " ++ decimal number ++ codes " refused " ++ word ++ codes "\n"

-- the text has no room for these bytes after it
abbrev pub LacksRoom : Vec ℕ Global → List ℕ → Type 0
LacksRoom text bytes = vec_capacity text < vec_len text + length bytes

-- the word of the reason for which a body was aborted
abbrev pub reason_word : Reason → List ℕ
reason_word NoRow = codes "no-row"
reason_word RowExists = codes "row-exists"
reason_word Overflow = codes "overflow"
reason_word Check = codes "check"

-- each number after a space
abbrev pub numbers_text : List ℤ → List ℕ
numbers_text numbers = flat_map (λ n. 32 ∷ signed_decimal n) numbers

-- the name of a user; `users` has the names by number
abbrev pub user_name : List (List ℕ) → ℕ → List ℕ
user_name users user = unwrap_or (slice_get users user) []

-- the name of a grantee, if there is one; no user's name has capital letters
abbrev pub grantee_name : List (List ℕ) → Option Grantee → List ℕ
grantee_name users None = []
grantee_name users (Some Grantee.Public) = codes "PUBLIC"
grantee_name users (Some (Grantee.User user)) = user_name users user

-- a record as version 2 spells it: its place, its kind, and to whom it was granted
abbrev pub spelled_record : List (List ℕ) → ℕ → Option Grantee → List ℕ
spelled_record users ranked grantee =
    decimal (place_of_rank ranked) ++ codes ":" ++ kind_word (kind_of_rank ranked) ++ codes ":" ++ grantee_name users grantee

-- a record in a version; version 1 has its place alone
abbrev pub record_in : Version → List Statement → List (List ℕ) → ℕ → List ℕ
record_in Version.One log users ranked = decimal (place_of_rank ranked)
record_in Version.Two log users ranked = spelled_record users ranked (grantee_at log ranked)

-- a record of a log that has these names
abbrev pub record_text : List Statement → Names → ℕ → List ℕ
record_text log names ranked = record_in names.version log names.users ranked

-- each record after a space
abbrev pub records_text : List Statement → Names → List ℕ → List ℕ
records_text log names ranks = flat_map (λ ranked. 32 ∷ record_text log names ranked) ranks

-- the records of the grants that a deed took out of force
abbrev pub records_revoked : DeedDone → List ℕ
records_revoked DeedDone.None = []
records_revoked DeedDone.Granted = []
records_revoked (DeedDone.Revoked ranks) = ranks

-- the records that an outcome lists
abbrev pub records_listed : Outcome → List ℕ
records_listed Outcome.Created = []
records_listed (Outcome.Done outputs deed) = records_revoked deed
records_listed (Outcome.Denied need cause) = []
records_listed (Outcome.Aborted step reason) = []
records_listed (Outcome.Undeclared step) = []

-- these are the grantees of the records of a log, in their order, where the version spells them
abbrev pub HaveGrantees : Version → List Statement → List ℕ → List Grantee → Type 0
HaveGrantees Version.One log ranks grantees = Unit {0}
HaveGrantees Version.Two log ranks grantees = map (grantee_at log) ranks ≡ map Some grantees

-- what the deed of a transaction resulted in
abbrev pub deed_text : List Statement → Names → DeedDone → List ℕ
deed_text log names DeedDone.None = []
deed_text log names DeedDone.Granted = codes " granted"
deed_text log names (DeedDone.Revoked ranks) = codes " revoked" ++ records_text log names ranks

-- a RUN that is done has its outputs, and a deed by itself only what it resulted in
abbrev pub done_text : List Statement → Names → Form → List ℤ → DeedDone → List ℕ
done_text log names (Form.Create table columns) outputs deed = codes " done" ++ numbers_text outputs ++ deed_text log names deed
done_text log names (Form.Run accesses steps asked) outputs deed = codes " done" ++ numbers_text outputs ++ deed_text log names deed
done_text log names (Form.Deed asked) outputs deed = deed_text log names deed

-- the name of a table; `tables` has the names by number
abbrev pub table_name : List (List ℕ) → ℕ → List ℕ
table_name tables table = unwrap_or (slice_get tables table) []

-- a need: the kind and the table, and whether it is with the option
abbrev pub need_text : List (List ℕ) → Need → List ℕ
need_text tables need =
    kind_word need.kind ++ codes " " ++ table_name tables need.table ++ (if need.option then codes " option" else [])

-- why a need isn't held
abbrev pub cause_text : Cause → List ℕ
cause_text Never = codes " never"
cause_text (Taken place) = codes " taken " ++ decimal place

-- what comes after a place
abbrev pub ending_text : List Statement → Names → Form → Outcome → List ℕ
ending_text log names form Outcome.Created = codes " created"
ending_text log names form (Outcome.Done outputs deed) = done_text log names form outputs deed
ending_text log names form (Outcome.Denied need cause) =
    codes " denied " ++ need_text names.tables need ++ cause_text cause
ending_text log names form (Outcome.Aborted step reason) =
    codes " aborted " ++ decimal step ++ codes " " ++ reason_word reason
ending_text log names form (Outcome.Undeclared step) = codes " undeclared " ++ decimal step

-- the report's line for a place of the log, which has these names
abbrev pub outcome_text : List Statement → Names → ℕ → Form → Outcome → List ℕ
outcome_text log names place form outcome = decimal place ++ ending_text log names form outcome ++ codes "\n"

-- an outcome names no table but the first this many
abbrev pub IsNamed : ℕ → Outcome → Type 0
IsNamed tables (Outcome.Denied need cause) = need.table < tables
IsNamed tables Outcome.Created = Unit {0}
IsNamed tables (Outcome.Done outputs deed) = Unit {0}
IsNamed tables (Outcome.Aborted step reason) = Unit {0}
IsNamed tables (Outcome.Undeclared step) = Unit {0}
