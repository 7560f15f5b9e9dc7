-- Which statement a log refuses, and why: the first test that it doesn't pass.
use Rattle.std.specs.Prelude.{◌≡◌, ◌≢◌, ℕ, ◌==◌, ◌&&◌, ◌||◌, Bool, false, not, Result, MatchResult, Option, Some, None, List, [], ◌∷◌, ◌++◌, length, bytes_eq, nat_lt, nat_le, if◌then◌else◌, slice_index_or}
use Rattle.std.specs.List.{list_any}
use Rattle.model_base.specs.declared.limits.TheConstants.{MOST_COLUMNS, MOST_NAMES, MOST_PLACES}
use Rattle.log_text.specs.Statement.{Sentence}
use Rattle.log_text.specs.declared.grantees.RawGrantee.{RawGrantee}
use Rattle.line_words.specs.declared.access.RawAccess.{RawAccess}
use Rattle.log_text.specs.declared.statement.RawDeed.{RawDeed}
use Rattle.log_text.specs.declared.statement.RawForm.{RawForm}
use Rattle.log_text.specs.declared.statement.RawStep.{RawStep}
use Rattle.sequencer.specs.Names.{is_known, number_of, with_name}
use Rattle.sequencer.specs.Catalog.{Names, deed_in, raw_grantees, named_table_of, with_named}
use Rattle.sequencer.specs.declared.refused.Refused.{Refused}
use Rattle.sequencer.specs.declared.refused.Refused.TheVariants.{UnknownTable, TableExists, BadColumns, DuplicateAccess, BadColumnNumber, SkipPastEnd, LogFull, TooManyNames, NoMemory}

-- a test that isn't passed refuses, and then a later one isn't asked
abbrev pub refuse_unless : Bool → Refused → Option Refused
refuse_unless passes refused = if passes then None else Some refused

abbrev pub or_refused : Option Refused → Option Refused → Option Refused
or_refused None later = later
or_refused (Some refused) later = Some refused

-- whether the two accesses are to one row
abbrev pub same_row : RawAccess → RawAccess → Bool
same_row access other = (access.row == other.row) && bytes_eq access.table other.table

-- an access is to a table that is known, and to another row than the accesses before it
abbrev pub access_refusal : Names → List RawAccess → RawAccess → Option Refused
access_refusal names earlier access =
    or_refused (refuse_unless (is_known names.tables access.table) UnknownTable)
    (refuse_unless (not (list_any (same_row access) earlier)) DuplicateAccess)

-- the accesses from left to right, after those before them
abbrev pub accesses_refusal : Names → List RawAccess → List RawAccess → Option Refused
accesses_refusal names earlier [] = None
accesses_refusal names earlier (access ∷ accesses) =
    or_refused (access_refusal names earlier access) (accesses_refusal names (earlier ++ access ∷ []) accesses)

-- how many columns the table of this name has
abbrev pub columns_of : Names → List ℕ → ℕ
columns_of names table = slice_index_or names.columns (number_of names.tables table) 0

-- a column of a table that is known
abbrev pub column_refusal : Names → List ℕ → ℕ → Option Refused
column_refusal names table column =
    or_refused (refuse_unless (is_known names.tables table) UnknownTable)
    (refuse_unless (nat_lt column (columns_of names table)) BadColumnNumber)

-- as many numbers for a new row as its table, which is known, has columns
abbrev pub width_refusal : Names → List ℕ → ℕ → Option Refused
width_refusal names table width =
    or_refused (refuse_unless (is_known names.tables table) UnknownTable) (refuse_unless (width == columns_of names table) BadColumns)

-- the table of this name, which is known
abbrev pub known_refusal : Names → List ℕ → Option Refused
known_refusal names table = refuse_unless (is_known names.tables table) UnknownTable

-- a step after which there are this many names a known table, a column that the table has, and as many registers for a new row as it has
-- columns; and it passes over no more steps than there are
abbrev pub step_refusal : Names → ℕ → RawStep → Option Refused
step_refusal names later (RawStep.Has to table row) = known_refusal names table
step_refusal names later (RawStep.Load to table row column) = column_refusal names table column
step_refusal names later (RawStep.Store table row column from) = column_refusal names table column
step_refusal names later (RawStep.Insert table row from) = width_refusal names table (length from)
step_refusal names later (RawStep.Delete table row) = known_refusal names table
step_refusal names later (RawStep.Skip of steps) = refuse_unless (nat_le steps later) SkipPastEnd
step_refusal names later (RawStep.Const to value) = None
step_refusal names later (RawStep.Compute operation to left right) = None
step_refusal names later (RawStep.Check of) = None
step_refusal names later (RawStep.Out of) = None

-- the steps from left to right
abbrev pub steps_refusal : Names → List RawStep → Option Refused
steps_refusal names [] = None
steps_refusal names (step ∷ steps) = or_refused (step_refusal names (length steps) step) (steps_refusal names steps)

-- a new table has a new name, and one to `MOST_COLUMNS` columns
abbrev pub create_refusal : Names → List ℕ → ℕ → Option Refused
create_refusal names table columns =
    or_refused (refuse_unless (not (is_known names.tables table)) TableExists) (refuse_unless (nat_le 1 columns
    && nat_le columns MOST_COLUMNS) BadColumns)

-- a deed, where there is one, is on a table that is known
abbrev pub deed_refusal : Names → Option RawDeed → Option Refused
deed_refusal names None = None
deed_refusal names (Some deed) = known_refusal names (named_table_of deed)

-- the accesses of a RUN come before its steps, and the steps before its deed
abbrev pub form_refusal : Names → RawForm → Option Refused
form_refusal names (RawForm.Create table columns) = create_refusal names table columns
form_refusal names (RawForm.Run accesses steps deed) =
    or_refused (accesses_refusal names [] accesses) (or_refused (steps_refusal names steps) (deed_refusal names deed))
form_refusal names (RawForm.Deed deed) = deed_refusal names (Some deed)

-- a new name, where there are `MOST_NAMES` already
abbrev pub name_refusal : List (List ℕ) → List ℕ → Option Refused
name_refusal names name = refuse_unless (nat_lt (length names) MOST_NAMES || is_known names name) TooManyNames

-- the name of a grantee; PUBLIC needs none
abbrev pub named_refusal : List (List ℕ) → RawGrantee → Option Refused
named_refusal users (RawGrantee.Named name) = name_refusal users name
named_refusal users RawGrantee.Public = None

-- whether the name of a grantee is neither this user's nor one of these; PUBLIC has no name
abbrev pub is_new_beside : List (List ℕ) → List ℕ → RawGrantee → Bool
is_new_beside users user (RawGrantee.Named name) = not (bytes_eq name user) && not (is_known users name)
is_new_beside users user RawGrantee.Public = false

-- the names of grantees, of which each is entered before the next
abbrev pub named_refusals : List (List ℕ) → List RawGrantee → Option Refused
named_refusals users [] = None
named_refusals users (grantee ∷ grantees) = or_refused (named_refusal users grantee) (named_refusals (with_named users grantee) grantees)

-- a user, and then grantees
abbrev pub parties_refusal : List (List ℕ) → List ℕ → List RawGrantee → Option Refused
parties_refusal users user grantees = or_refused (name_refusal users user) (named_refusals (with_name users user) grantees)

-- a new grantee, where there are `MOST_NAMES` users already
abbrev pub grantees_refusal : List (List ℕ) → Option RawDeed → Option Refused
grantees_refusal users None = None
grantees_refusal users (Some deed) = named_refusals users (raw_grantees deed)

-- a new user comes before new grantees
abbrev pub users_refusal : List (List ℕ) → List ℕ → Option RawDeed → Option Refused
users_refusal users user deed = or_refused (name_refusal users user) (grantees_refusal (with_name users user) deed)

-- a new table, where there are `MOST_NAMES` already
abbrev pub table_refusal : Names → RawForm → Option Refused
table_refusal names (RawForm.Create table columns) = name_refusal names.tables table
table_refusal names (RawForm.Run accesses steps deed) = None
table_refusal names (RawForm.Deed deed) = None

-- the first test of a statement that isn't passed, if there is one
abbrev pub refusal : Names → Sentence → Option Refused
refusal names sentence =
    or_refused (refuse_unless (nat_lt names.places MOST_PLACES) LogFull)
    (or_refused (form_refusal names sentence.form)
    (or_refused (users_refusal names.users sentence.user (deed_in sentence.form)) (table_refusal names sentence.form)))

-- out of memory comes only where no test refuses, and any other answer is the first test that isn't passed
abbrev pub IsRefusal : Refused → Option Refused → Type 0
IsRefusal NoMemory found = found ≡ None
IsRefusal refused found = found ≡ Some refused

-- a test answers the refusal, which is never out of memory, or nothing where there is none
abbrev pub IsAnswer : {X : Type 0} → Result X Refused → Option Refused → Type 0
IsAnswer result found = MatchResult result (λ _. found ≡ None) (λ refused. (found ≡ Some refused) × (refused ≢ NoMemory))

-- a test that has a value besides answers it where nothing is refused
abbrev pub IsAnswerOf : {X : Type 0} → Result X Refused → Option Refused → X → Type 0
IsAnswerOf result found value =
    MatchResult result (λ x. (found ≡ None) × (x ≡ value)) (λ refused. (found ≡ Some refused) × (refused ≢ NoMemory))
