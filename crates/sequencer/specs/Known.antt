-- What a catalog shows, and room for a statement.
use Rattle.std.specs.Prelude.{◌≡◌, ◌≤◌, [], All, length, vec_capacity}
use Rattle.model_base.specs.declared.limits.TheConstants.{MOST_COLUMNS, MOST_PLACES}
use Rattle.log_text.specs.declared.statement.RawForm.{RawForm}
use Rattle.log_text.specs.declared.statement.RawForm.TheVariants.{Create, Run, Deed}
use Rattle.sequencer.specs.Catalog.{Names}
use Rattle.sequencer.specs.declared.catalog.Catalog.TheInside.{Inside}
use Rattle.sequencer.specs.declared.statement_buffers.StatementBuffers.{StatementBuffers}

-- the names that a catalog holds
abbrev pub names_of : Inside → Names
names_of inside = record {
  users = inside.users;
  tables = inside.tables;
  owners = inside.owners.items;
  columns = inside.columns.items;
  places = inside.places;
  version = inside.version;
}

-- each table has an owner and a number of columns, which is `MOST_COLUMNS` at most
pub record IsConsistent (inside : Inside) : Type 0 where
  pub owners : length inside.owners.items ≡ length inside.tables
  pub columns : length inside.columns.items ≡ length inside.tables
  pub narrow : All (λ count. count ≤ MOST_COLUMNS) inside.columns.items
  pub places : inside.places ≤ MOST_PLACES

-- the room is empty, and each access and step of the statement finds a place in it
abbrev pub HasRoom : StatementBuffers → RawForm → Type 0
HasRoom room (Create table columns) = Unit {0}
HasRoom room (Deed deed) = Unit {0}
HasRoom room (Run accesses steps deed) =
    (room.accesses.items ≡ []) × (room.steps.items ≡ [])
    × (length accesses ≤ vec_capacity room.accesses) × (length steps ≤ vec_capacity room.steps)
