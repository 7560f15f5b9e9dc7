-- Statements as a line spells them, and which line reads as which.
use Rattle.std.specs.Prelude.{◌≡◌, ℕ, ◌<◌, ◌≤◌, ◌^◌, ◌&&◌, not, Bool, Option, Some, None, List, [], ◌∷◌, ◌++◌, length, map, codes, if◌then◌else◌, IsTrue}
use Rattle.std.specs.Fmt.{decimal, signed_decimal}
use Rattle.std.specs.List.{join_with_byte, flat_map, list_any, AllByRecursion, sum_by}
use Rattle.model_base.specs.declared.limits.TheConstants.{MOST_ACCESSES, MOST_COLUMNS, MOST_OUTPUTS, MOST_REGISTERS, MOST_STEPS}
use Rattle.line_io.specs.declared.limits.TheConstants.{MOST_LINE_BYTES}
use Rattle.model_base.specs.declared.deed.Kind.{Kind}
use Rattle.model_base.specs.declared.deed.Kind.TheVariants as kind
use Rattle.model_base.specs.declared.deed.Kinds.{Kinds}
use Rattle.model_base.specs.Outcomes.{kinds_in}
use Rattle.model_base.specs.declared.statement.RowName.{RowName}
use Rattle.model_base.specs.declared.statement.RowName.TheVariants.{Number, Held}
use Rattle.line_words.specs.StepWords.{operation_word}
use Rattle.line_words.specs.Words.{words, is_name}
use Rattle.line_words.specs.Access.{access_word, IsAccess}
use Rattle.log_text.specs.declared.statement.RawDeed.{RawDeed}
use Rattle.log_text.specs.declared.statement.RawDeed.TheVariants.{Grant, Revoke}
use Rattle.log_text.specs.Grantees.{grantees_word, is_everyone, AreGrantees}
use Rattle.log_text.specs.declared.statement.RawForm.{RawForm}
use Rattle.log_text.specs.declared.statement.RawForm.TheVariants.{Create, Run, Deed}
use Rattle.log_text.specs.declared.statement.RawStep.{RawStep}
use Rattle.log_text.specs.declared.statement.RawStep.TheVariants.{Const, Compute, Has, Load, Store, Insert, Delete, Check, Skip, Out}
use Rattle.log_text.specs.declared.version.Version.{Version}
use Rattle.log_text.specs.declared.version.Version.TheVariants.{One}
use Rattle.log_text.specs.Versions.{MayHaveParts, version_number}
use Rattle.model_base.specs.Body.{fits_64_bits}

-- a user, and what the user asks for
pub record Sentence : Type 0 where
  pub user : List ℕ
  pub form : RawForm

-- row = plain | "r" reg
abbrev pub row_word : RowName → List ℕ
row_word (Number number) = decimal number
row_word (Held register) = codes "r" ++ decimal register

-- the words of a step
abbrev pub step_words : RawStep → List (List ℕ)
step_words (Const to value) = codes "CONST" ∷ decimal to ∷ signed_decimal value ∷ []
step_words (Compute operation to left right) = operation_word operation ∷ decimal to ∷ decimal left ∷ decimal right ∷ []
step_words (Has to table row) = codes "HAS" ∷ decimal to ∷ table ∷ row_word row ∷ []
step_words (Load to table row column) = codes "LOAD" ∷ decimal to ∷ table ∷ row_word row ∷ decimal column ∷ []
step_words (Store table row column from) = codes "STORE" ∷ table ∷ row_word row ∷ decimal column ∷ decimal from ∷ []
step_words (Insert table row from) = codes "INSERT" ∷ table ∷ row_word row ∷ map decimal from
step_words (Delete table row) = codes "DELETE" ∷ table ∷ row_word row ∷ []
step_words (Check of) = codes "CHECK" ∷ decimal of ∷ []
step_words (Skip of steps) = codes "SKIP" ∷ decimal of ∷ decimal steps ∷ []
step_words (Out of) = codes "OUT" ∷ decimal of ∷ []

-- " | " step
abbrev pub further_step : RawStep → List (List ℕ)
further_step s = codes "|" ∷ step_words s

-- the word of a kind
abbrev pub kind_word : Kind → List ℕ
kind_word kind.Read = codes "READ"
kind_word kind.Insert = codes "INSERT"
kind_word kind.Update = codes "UPDATE"
kind_word kind.Delete = codes "DELETE"

-- kinds = kind {"," kind}, in order, each once at most
abbrev pub kinds_word : Kinds → List ℕ
kinds_word kinds = join_with_byte 44 (map kind_word (kinds_in kinds))

-- [" OPTION"]
abbrev pub option_words : Bool → List (List ℕ)
option_words option = if option then codes "OPTION" ∷ [] else []

-- "GRANT " kinds " " name " " grantees [" OPTION"] | "REVOKE " kinds " " name " " grantees
abbrev pub deed_words : RawDeed → List (List ℕ)
deed_words (Grant kinds table grantees option) =
    codes "GRANT" ∷ kinds_word kinds ∷ table ∷ grantees_word grantees ∷ option_words option
deed_words (Revoke kinds table grantees) = codes "REVOKE" ∷ kinds_word kinds ∷ table ∷ grantees_word grantees ∷ []

-- [" | " deed]
abbrev pub last_deed : Option RawDeed → List (List ℕ)
last_deed None = []
last_deed (Some deed) = codes "|" ∷ deed_words deed

-- {" | " step} [" | " deed]
abbrev pub body_words : List RawStep → Option RawDeed → List (List ℕ)
body_words steps deed = flat_map further_step steps ++ last_deed deed

-- " CREATE " name " " plain | " RUN " access {" " access} {" | " step} [" | " deed] | " " deed
abbrev pub form_words : RawForm → List (List ℕ)
form_words (Create table columns) = codes "CREATE" ∷ table ∷ decimal columns ∷ []
form_words (Run accesses steps deed) = codes "RUN" ∷ (map access_word accesses ++ body_words steps deed)
form_words (Deed deed) = deed_words deed

-- the words of a statement
abbrev pub statement_words : Sentence → List (List ℕ)
statement_words s = s.user ∷ form_words s.form

-- the line of a statement
abbrev pub spelling : Sentence → List ℕ
spelling s = join_with_byte 32 (statement_words s)

-- one of the registers
abbrev pub IsRegister : ℕ → Type 0
IsRegister n = n < MOST_REGISTERS

-- a row's number fits 32 bits
abbrev pub IsRowNumber : RowName → Type 0
IsRowNumber (Number number) = number < 2 ^ 32
IsRowNumber (Held register) = IsRegister register

-- a step's names are names, and its numbers are in their ranges
abbrev pub IsStep : RawStep → Type 0
IsStep (Const to value) = IsRegister to × IsTrue (fits_64_bits value)
IsStep (Compute operation to left right) = IsRegister to × IsRegister left × IsRegister right
IsStep (Has to table row) = IsRegister to × IsTrue (is_name table) × IsRowNumber row
IsStep (Load to table row column) = IsRegister to × IsTrue (is_name table) × IsRowNumber row × (column < 2 ^ 32)
IsStep (Store table row column from) = IsTrue (is_name table) × IsRowNumber row × (column < 2 ^ 32) × IsRegister from
IsStep (Insert table row from) = IsTrue (is_name table) × IsRowNumber row × (1 ≤ length from) × (length from ≤ MOST_COLUMNS)
    × AllByRecursion IsRegister from
IsStep (Delete table row) = IsTrue (is_name table) × IsRowNumber row
IsStep (Check of) = IsRegister of
IsStep (Skip of steps) = IsRegister of × (steps < 2 ^ 32)
IsStep (Out of) = IsRegister of

-- how many outputs a step makes
abbrev pub outs_of : RawStep → ℕ
outs_of (Out of) = 1
outs_of _ = 0

-- there is a kind, the names of a deed are names, and a list with PUBLIC has no option
abbrev pub IsDeed : RawDeed → Type 0
IsDeed (Grant kinds table grantees option) =
    (1 ≤ length (kinds_in kinds)) × IsTrue (is_name table) × AreGrantees grantees × IsTrue (not (option && list_any is_everyone grantees))
IsDeed (Revoke kinds table grantees) = (1 ≤ length (kinds_in kinds)) × IsTrue (is_name table) × AreGrantees grantees

-- without lists a deed has one kind and one grantee
abbrev pub IsDeedOf : ℕ → RawDeed → Type 0
IsDeedOf version (Grant kinds table grantees option) =
    MayHaveParts version (length (kinds_in kinds)) × MayHaveParts version (length grantees)
IsDeedOf version (Revoke kinds table grantees) =
    MayHaveParts version (length (kinds_in kinds)) × MayHaveParts version (length grantees)

-- those of the deed after the steps, if there is one
abbrev pub IsLastDeed : Option RawDeed → Type 0
IsLastDeed None = Unit {0}
IsLastDeed (Some deed) = IsDeed deed

-- those of the deed after the steps, if there is one
abbrev pub IsLastDeedOf : ℕ → Option RawDeed → Type 0
IsLastDeedOf version None = Unit {0}
IsLastDeedOf version (Some deed) = IsDeedOf version deed

-- a table with a number of columns below 2^32, or accesses and steps, some of them OUT, within their limits, and perhaps
-- a deed, or a deed
abbrev pub IsFormInGrammar : RawForm → Type 0
IsFormInGrammar (Create table columns) = IsTrue (is_name table) × (columns < 2 ^ 32)
IsFormInGrammar (Run accesses steps deed) = (1 ≤ length accesses) × (length accesses ≤ MOST_ACCESSES) × AllByRecursion IsAccess accesses
    × (length steps ≤ MOST_STEPS) × (sum_by outs_of steps ≤ MOST_OUTPUTS) × AllByRecursion IsStep steps × IsLastDeed deed
IsFormInGrammar (Deed deed) = IsDeed deed

-- without lists its deed, if it has one, has none
abbrev pub IsFormOf : ℕ → RawForm → Type 0
IsFormOf version (Create table columns) = Unit {0}
IsFormOf version (Run accesses steps deed) = IsLastDeedOf version deed
IsFormOf version (Deed deed) = IsDeedOf version deed

-- the statement has a line of at most `MOST_LINE_BYTES`, and is of some version
pub record IsInGrammar (s : Sentence) : Type 0 where
  pub user : IsTrue (is_name s.user)
  pub form : IsFormInGrammar s.form
  pub short : length (spelling s) ≤ MOST_LINE_BYTES

-- the line's words are those of the statement, which is in the grammar and of the version
pub record ReadsIn (version : Version) (line : List ℕ) (s : Sentence) : Type 0 where
  pub same : words line ≡ statement_words s
  pub grammar : IsInGrammar s
  pub lists : IsFormOf (version_number version) s.form

-- the same of version 1
abbrev pub Reads : List ℕ → Sentence → Type 0
Reads line s = ReadsIn One line s
