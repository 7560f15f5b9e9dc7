-- The last places so far that may change the rows of one partition, and that have a deed on its tables.
use Rattle.std.specs.Prelude.{◌≡◌, ◌==◌, ◌&&◌, ◌+◌, ℕ, zero, suc, Bool, Option, Some, None, List, false, slice_get, if◌then◌else◌}
use Rattle.std.specs.BTreeMap.{get}
use Rattle.std.specs.Ordering.{nat_cmp, ordering_then}
use Rattle.std.specs.declared.cmp.Ordering.{Ordering}
use Rattle.model_base.specs.declared.reference.Reference.{Reference}
use Rattle.model_base.specs.declared.reference.Reference.TheVariants.{Base, At}
use Rattle.model_base.specs.declared.row.Key.{Key}
use Rattle.model_base.specs.declared.statement.Access.{Access}
use Rattle.model_base.specs.declared.statement.Statement.{Statement}
use Rattle.model_base.specs.References.{declares_write, has_deed_on, last_before}
use Rattle.placing.specs.declared.latest.Latest.{Latest}
use Rattle.placing.specs.Parts.{key_partition, table_partition}

-- the order of keys: by table, and in a table by the row's number
abbrev pub key_cmp : Key → Key → Ordering
key_cmp a b = ordering_then (nat_cmp a.table b.table) (nat_cmp a.row b.row)

-- a place, or the base where there is none
abbrev pub reference_to : Option ℕ → Reference
reference_to None = Base
reference_to (Some place) = At place

-- the last writer of a row that is kept
abbrev pub writer_in : Latest → ℕ → ℕ → Reference
writer_in latest table row = reference_to (get key_cmp latest.writers (record { table = table; row = row }))

-- the last place with a deed on a table that is kept
abbrev pub prior_in : Latest → ℕ → Reference
prior_in latest table = reference_to (get nat_cmp latest.deeds table)

-- whether the row is of the partition
abbrev pub is_own_row : Latest → ℕ → ℕ → Bool
is_own_row latest table row = key_partition latest.partitions table row == latest.partition

-- whether the deeds on the table are of the partition
abbrev pub is_own_table : Latest → ℕ → Bool
is_own_table latest table = table_partition latest.partitions table == latest.partition

-- the last writer of an access's row, if the row is of the partition
abbrev pub own_writer : Latest → Access → Reference
own_writer latest access =
    if is_own_row latest access.key.table access.key.row then writer_in latest access.key.table access.key.row else Base

-- the last place with a deed on a table, if the table is of the partition
abbrev pub own_prior : Latest → ℕ → Reference
own_prior latest table = if is_own_table latest table then prior_in latest table else Base

-- of its partition, the last places of the batch below this one are kept, and of other partitions nothing
pub record IsLatest (latest : Latest) (log : List Statement) (first place : ℕ) : Type 0 where
  pub writers :
      (table row : ℕ) → writer_in latest table row
      ≡ (if is_own_row latest table row then last_before (declares_write table row) log first place else Base)
  pub deeds :
      (table : ℕ) → prior_in latest table
      ≡ (if is_own_table latest table then last_before (has_deed_on table) log first place else Base)

-- the partition is the same, and so is each row and table of it that the statement doesn't declare to write or to have a deed on
pub record ChangesOnly (old new : Latest) (statement : Statement) : Type 0 where
  pub partition : new.partition ≡ old.partition
  pub partitions : new.partitions ≡ old.partitions
  pub writers :
      (table row : ℕ) → (is_own_row old table row && declares_write table row statement) ≡ false
      → writer_in new table row ≡ writer_in old table row
  pub deeds :
      (table : ℕ) → (is_own_table old table && has_deed_on table statement) ≡ false → prior_in new table ≡ prior_in old table

-- all places of the batch below this one are noted, and of this one's statement maybe a part
pub record IsBehind (latest : Latest) (log : List Statement) (first place : ℕ) : Type 0 where
  pub exact : Latest
  pub noted : IsLatest exact log first place
  pub partition : latest.partition ≡ exact.partition
  pub partitions : latest.partitions ≡ exact.partitions
  pub part : (statement : Statement) → slice_get log place ≡ Some statement → ChangesOnly exact latest statement

-- this many places of the batch were gone through: before any nothing is kept, and then all are noted but the last, of which maybe a part
-- is
abbrev pub IsUpTo : Latest → List Statement → ℕ → ℕ → Type 0
IsUpTo latest log first zero = IsLatest latest log first first
IsUpTo latest log first (suc last) = IsBehind latest log first (first + last)

-- the partition is the same; a row of it that the statement declares to write is kept with the place, as is a table of it
-- that the statement has a deed on, and each other row and table stays as it was
pub record Notes (old new : Latest) (statement : Statement) (place : ℕ) : Type 0 where
  pub partition : new.partition ≡ old.partition
  pub partitions : new.partitions ≡ old.partitions
  pub writers :
      (table row : ℕ) → writer_in new table row
      ≡ (if is_own_row old table row && declares_write table row statement then At place else writer_in old table row)
  pub deeds :
      (table : ℕ) → prior_in new table
      ≡ (if is_own_table old table && has_deed_on table statement then At place else prior_in old table)
