-- The partitions of keys and tables, and what the placer of one partition finds in a batch. Each partition goes through all
-- transactions in the order of the log, without looking at another one (J. M. Faleiro and D. J. Abadi, "Rethinking
-- Serializable Multiversion Concurrency Control", PVLDB 8, 2015, section 3).
use Rattle.std.specs.Prelude.{◌≡◌, ◌==◌, ◌<◌, ◌≤◌, ◌+◌, ◌%◌, ◌++◌, ℕ, List, [], ◌∷◌, fold, map, slice_get, if◌then◌else◌}
use Rattle.std.specs.List.{range_with_len}
use Rattle.std.specs.Option.{option_map_or}
use Rattle.model_base.specs.declared.reference.Reference.{Reference}
use Rattle.model_base.specs.declared.reference.Reference.TheVariants.{Base, At}
use Rattle.model_base.specs.declared.statement.Access.{Access}
use Rattle.model_base.specs.declared.statement.Statement.{Statement}
use Rattle.model_base.specs.References.{prior, tables_of, writer}
use Rattle.model_base.specs.Versions.{accesses_of}
use Rattle.placing.specs.declared.part.Found.{Found}

-- the partition, of this many, of a row
abbrev pub key_partition : ℕ → ℕ → ℕ → ℕ
key_partition partitions table row = (table + row) % partitions

-- the partition of the deeds on a table
abbrev pub table_partition : ℕ → ℕ → ℕ
table_partition partitions table = table % partitions

-- a reference, and the partition whose placer finds it
pub record Referral : Type 0 where
  pub partition : ℕ
  pub reference : Reference

-- the reference of an access
abbrev pub access_referral : ℕ → List Statement → ℕ → ℕ → Access → Referral
access_referral partitions log first place access =
    record { partition = key_partition partitions access.key.table access.key.row; reference = writer log first place access }

-- the reference of a table
abbrev pub table_referral : ℕ → List Statement → ℕ → ℕ → ℕ → Referral
table_referral partitions log first place table =
    record { partition = table_partition partitions table; reference = prior log first place table }

-- the references of a statement at a place of the batch
abbrev pub referrals_of : ℕ → List Statement → ℕ → ℕ → Statement → List Referral
referrals_of partitions log first place statement =
    map (access_referral partitions log first place) (accesses_of statement.form)
    ++ map (table_referral partitions log first place) (tables_of statement.form)

-- the references of a place of the batch
abbrev pub referrals_at : ℕ → List Statement → ℕ → ℕ → List Referral
referrals_at partitions log first place = option_map_or (referrals_of partitions log first place) (slice_get log place) []

-- the reference, if the partition's placer finds it
abbrev pub own_reference : ℕ → Referral → Reference
own_reference partition referral = if referral.partition == partition then referral.reference else Base

-- what one partition's placer gives: where each place's references end, in the list of all references of the batch; how many
-- there are; and those that it found to be to places
pub record PartOf : Type 0 where
  pub ends : List ℕ
  pub count : ℕ
  pub found : List Found

-- of no place
abbrev pub empty_part : PartOf
empty_part = record { ends = []; count = 0; found = [] }

-- what is found where the reference of this index is to a place
abbrev pub place_found : ℕ → Reference → List Found
place_found index Base = []
place_found index (At place) = record { index = index; place = place } ∷ []

-- the part with one more reference
abbrev pub with_reference : PartOf → Reference → PartOf
with_reference part reference =
    record { ends = part.ends; count = part.count + 1; found = part.found ++ place_found part.count reference }

-- the part with a further place, which has all references since the last one
abbrev pub with_end : PartOf → PartOf
with_end part = record { ends = part.ends ++ part.count ∷ []; count = part.count; found = part.found }

-- the part with a further place, which has these references
abbrev pub with_place : PartOf → List Reference → PartOf
with_place part references = with_end (fold with_reference part references)

-- what the partition's placer finds at a place of the batch
abbrev pub own_references : ℕ → List Statement → ℕ → ℕ → ℕ → List Reference
own_references partitions log first partition place = map (own_reference partition) (referrals_at partitions log first place)

-- what the partition's placer gives for this many places of the batch, one after another
abbrev pub part_of : ℕ → List Statement → ℕ → ℕ → ℕ → PartOf
part_of partitions log first places partition =
    fold with_place empty_part (map (own_references partitions log first partition) (range_with_len first places))

-- the parts of all partitions for this many places of a batch, in the order of the partitions
abbrev pub ArePartsOf : List PartOf → ℕ → List Statement → ℕ → ℕ → Type 0
ArePartsOf parts partitions log first places =
    (0 < partitions) × (parts ≡ map (part_of partitions log first places) (range_with_len 0 partitions))

-- the ends don't fall, and the last is at most the count
abbrev pub AreRisingEnds : ℕ → List ℕ → ℕ → Type 0
AreRisingEnds start [] count = start ≤ count
AreRisingEnds start (end ∷ ends) count = (start ≤ end) × AreRisingEnds end ends count
