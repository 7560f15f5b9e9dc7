-- Statements that are numbered before their turn, by the names of an earlier place of the log.
use Rattle.std.specs.Prelude.{◌≡◌, ◌+◌, ◌<◌, Bool, true, None, Option, Some, List, [], length, take, ℕ}
use Rattle.std.specs.List.{AllByRecursion}
use Rattle.model_base.specs.declared.limits.TheConstants.{MOST_PLACES}
use Rattle.model_base.specs.declared.statement.Statement.{Statement}
use Rattle.log_text.specs.Statement.{Sentence}
use Rattle.log_text.specs.declared.grantees.RawGrantee.{RawGrantee}
use Rattle.log_text.specs.declared.statement.RawDeed.{RawDeed}
use Rattle.log_text.specs.declared.statement.RawForm.{RawForm}
use Rattle.sequencer.specs.Names.{is_known, number_of}
use Rattle.sequencer.specs.Catalog.{Names, raw_grantees, numbered, numbered_form, with_statement}
use Rattle.sequencer.specs.Refusal.{accesses_refusal, deed_refusal, refusal, steps_refusal}

-- the names of a later place begin with these: its first users are these, and so are its first tables with their owners and
-- their columns
pub record Begins (names later : Names) : Type 0 where
  pub users : take (length names.users) later.users ≡ names.users
  pub tables : take (length names.tables) later.tables ≡ names.tables
  pub owners : take (length names.owners) later.owners ≡ names.owners
  pub columns : take (length names.columns) later.columns ≡ names.columns

-- the names after a statement that names nobody and nothing new
abbrev pub with_one_place : Names → Names
with_one_place names = record names { places = names.places + 1 }

-- the names with the first this many tables of a later place
abbrev pub with_tables_of : Names → Names → ℕ → Names
with_tables_of names later count =
    record names {
      tables = take count later.tables;
      owners = take count later.owners;
      columns = take count later.columns;
    }

-- the log takes the sentence as its next place: it becomes this statement by number, and names nobody and nothing new
pub record IsForetold (later : Names) (sentence : Sentence) (statement : Statement) : Type 0 where
  pub passes : refusal later sentence ≡ None
  pub ok : statement ≡ numbered later sentence
  pub names : with_statement later sentence ≡ with_one_place later

-- whatever is accepted from a place with these names on, the sentence is taken as this statement while a place is left
abbrev pub Foretells : Names → Sentence → Statement → Type 0
Foretells names sentence statement =
    (later : Names) → Begins names later → later.places < MOST_PLACES → IsForetold later sentence statement

-- a sentence by number that names nobody and nothing new
abbrev pub foretold_as : Names → Sentence → Statement
foretold_as names sentence = record {
  user = number_of names.users sentence.user;
  form = numbered_form names sentence.form;
}

-- a grantee is PUBLIC or a known user
abbrev pub is_known_grantee : List (List ℕ) → RawGrantee → Bool
is_known_grantee users (RawGrantee.Named name) = is_known users name
is_known_grantee users RawGrantee.Public = true

-- a deed is on a known table, and each of its grantees is PUBLIC or a known user
pub record KnowsDeed (names : Names) (deed : RawDeed) : Type 0 where
  pub table : deed_refusal names (Some deed) ≡ None
  pub grantees : AllByRecursion (λ grantee. is_known_grantee names.users grantee ≡ true) (raw_grantees deed)

-- so is the deed of a RUN, if it has one
abbrev pub KnowsDeedIn : Names → Option RawDeed → Type 0
KnowsDeedIn names None = Unit {0}
KnowsDeedIn names (Some deed) = KnowsDeed names deed

-- a form that is no CREATE passes its tests, and names nobody new
abbrev pub KnowsForm : Names → RawForm → Type 0
KnowsForm names (RawForm.Create table columns) = ⊥
KnowsForm names (RawForm.Run accesses steps deed) =
    (accesses_refusal names [] accesses ≡ None) × (steps_refusal names steps ≡ None) × KnowsDeedIn names deed
KnowsForm names (RawForm.Deed deed) = KnowsDeed names deed

-- so does the form of a statement, whose user is known too
pub record Knows (names : Names) (sentence : Sentence) : Type 0 where
  pub user : is_known names.users sentence.user ≡ true
  pub form : KnowsForm names sentence.form
