-- The slots of a batch whose grants were made before it, and the others.
use Rattle.std.specs.Prelude.{ℕ, List, drop, length, take}
use Rattle.model_base.specs.declared.deed.Grant.{Grant}
use Rattle.model_base.specs.declared.deed.Record.{Record}
use Rattle.model_base.specs.Records.{grants_of, records}
use Rattle.bohm_core_base.specs.Batch.{Batch, batch_slots}

-- how many there are: they are before the slots of the grants that the batch may make
abbrev pub earlier_count : Batch → ℕ
earlier_count batch = length (grants_of batch.before)

-- their grants
abbrev pub earlier_grants : Batch → List Grant
earlier_grants batch = take (earlier_count batch) (batch_slots batch)

-- and the grants that the batch may make itself
abbrev pub own_grants : Batch → List Grant
own_grants batch = drop (earlier_count batch) (batch_slots batch)

-- their records before the batch
abbrev pub records_before : Batch → List Record
records_before batch = records batch.owners batch.before
