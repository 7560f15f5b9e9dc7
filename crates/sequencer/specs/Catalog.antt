-- What a log knows of names after its first statements, and how a statement's names become numbers.
use Rattle.std.specs.Prelude.{ℕ, ◌+◌, Option, Some, None, List, [], ◌∷◌, ◌++◌, map}
use Rattle.std.specs.Option.{option_map}
use Rattle.model_base.specs.declared.deed.Grantee.{Grantee}
use Rattle.model_base.specs.declared.statement.Access.{Access}
use Rattle.model_base.specs.declared.statement.Step.{Step}
use Rattle.model_base.specs.declared.statement.DeedForm.{DeedForm}
use Rattle.model_base.specs.declared.statement.Form.{Form}
use Rattle.model_base.specs.declared.statement.Statement.{Statement}
use Rattle.log_text.specs.Statement.{Sentence}
use Rattle.log_text.specs.declared.grantees.RawGrantee.{RawGrantee}
use Rattle.line_words.specs.declared.access.RawAccess.{RawAccess}
use Rattle.log_text.specs.declared.statement.RawDeed.{RawDeed}
use Rattle.log_text.specs.declared.statement.RawForm.{RawForm}
use Rattle.log_text.specs.declared.statement.RawStep.{RawStep}
use Rattle.log_text.specs.declared.version.Version.{Version}
use Rattle.sequencer.specs.Names.{number_of, with_name}

-- the names of the users and of the tables, each list by number; the owner and the number of columns of each table; how many
-- statements were accepted; and the version of the grammar of the next lines
pub record Names : Type 0 where
  pub users : List (List ℕ)
  pub tables : List (List ℕ)
  pub owners : List ℕ
  pub columns : List ℕ
  pub places : ℕ
  pub version : Version

-- before the first statement nothing is named, and the version is the first
abbrev pub no_names : Names
no_names = record { users = []; tables = []; owners = []; columns = []; places = 0; version = Version.One }

-- an access with its table by number
abbrev pub numbered_access : Names → RawAccess → Access
numbered_access names access =
    record { key = record { table = number_of names.tables access.table; row = access.row }; kinds = access.kinds }

-- a step with its table by number
abbrev pub numbered_step : Names → RawStep → Step
numbered_step names (RawStep.Const to value) = Step.Const to value
numbered_step names (RawStep.Compute operation to left right) = Step.Compute operation to left right
numbered_step names (RawStep.Has to table row) = Step.Has to (number_of names.tables table) row
numbered_step names (RawStep.Load to table row column) = Step.Load to (number_of names.tables table) row column
numbered_step names (RawStep.Store table row column from) = Step.Store (number_of names.tables table) row column from
numbered_step names (RawStep.Insert table row from) = Step.Insert (number_of names.tables table) row from
numbered_step names (RawStep.Delete table row) = Step.Delete (number_of names.tables table) row
numbered_step names (RawStep.Check of) = Step.Check of
numbered_step names (RawStep.Skip of steps) = Step.Skip of steps
numbered_step names (RawStep.Out of) = Step.Out of

-- a grantee by its number among the users; PUBLIC isn't one of them
abbrev pub numbered_grantee : List (List ℕ) → RawGrantee → Grantee
numbered_grantee users (RawGrantee.Named name) = Grantee.User (number_of users name)
numbered_grantee users RawGrantee.Public = Grantee.Public

-- a deed with its table and its grantees by number
abbrev pub numbered_deed : Names → RawDeed → DeedForm
numbered_deed names (RawDeed.Grant kinds table grantees option) =
    DeedForm.Grant kinds (number_of names.tables table) (map (numbered_grantee names.users) grantees) option
numbered_deed names (RawDeed.Revoke kinds table grantees) =
    DeedForm.Revoke kinds (number_of names.tables table) (map (numbered_grantee names.users) grantees)

-- what a statement asks for, with its names by number
abbrev pub numbered_form : Names → RawForm → Form
numbered_form names (RawForm.Create table columns) = Form.Create (number_of names.tables table) columns
numbered_form names (RawForm.Run accesses steps deed) =
    Form.Run (map (numbered_access names) accesses) (map (numbered_step names) steps) (option_map (numbered_deed names) deed)
numbered_form names (RawForm.Deed deed) = Form.Deed (numbered_deed names deed)

-- the table that a deed names, and the grantees
abbrev pub named_table_of : RawDeed → List ℕ
named_table_of (RawDeed.Grant kinds table grantees option) = table
named_table_of (RawDeed.Revoke kinds table grantees) = table

abbrev pub raw_grantees : RawDeed → List RawGrantee
raw_grantees (RawDeed.Grant kinds table grantees option) = grantees
raw_grantees (RawDeed.Revoke kinds table grantees) = grantees

-- the deed of a statement, if it has one
abbrev pub deed_in : RawForm → Option RawDeed
deed_in (RawForm.Create table columns) = None
deed_in (RawForm.Run accesses steps deed) = deed
deed_in (RawForm.Deed deed) = Some deed

-- the users once a grantee is named; PUBLIC names none
abbrev pub with_named : List (List ℕ) → RawGrantee → List (List ℕ)
with_named users (RawGrantee.Named name) = with_name users name
with_named users RawGrantee.Public = users

-- the users once grantees are named, from left to right
abbrev pub with_all_named : List (List ℕ) → List RawGrantee → List (List ℕ)
with_all_named users [] = users
with_all_named users (grantee ∷ grantees) = with_all_named (with_named users grantee) grantees

-- the users once the grantees of a deed are named
abbrev pub with_grantees : List (List ℕ) → Option RawDeed → List (List ℕ)
with_grantees users None = users
with_grantees users (Some deed) = with_all_named users (raw_grantees deed)

-- the names once the user of a statement is named, and then the grantees of its deed
abbrev pub with_users : Names → List ℕ → Option RawDeed → Names
with_users names user deed = record names { users = with_grantees (with_name names.users user) deed }

-- a statement with its names by number; a name that it is the first to name gets the next one, its user before its grantees
abbrev pub numbered : Names → Sentence → Statement
numbered names sentence = record {
  user = number_of names.users sentence.user;
  form = numbered_form (with_users names sentence.user (deed_in sentence.form)) sentence.form;
}

-- the names after an accepted statement of this user's form
abbrev pub with_form : Names → ℕ → RawForm → Names
with_form names user (RawForm.Create table columns) =
    record names {
      tables = names.tables ++ table ∷ [];
      owners = names.owners ++ user ∷ [];
      columns = names.columns ++ columns ∷ [];
    }
with_form names user (RawForm.Run accesses steps deed) = names
with_form names user (RawForm.Deed deed) = names

-- the names after an accepted statement: its user is named, then its grantees, and a CREATE names its table
abbrev pub with_statement : Names → Sentence → Names
with_statement names sentence =
    record (with_form names (number_of names.users sentence.user) sentence.form) {
      users = with_grantees (with_name names.users sentence.user) (deed_in sentence.form);
      places = names.places + 1;
    }
