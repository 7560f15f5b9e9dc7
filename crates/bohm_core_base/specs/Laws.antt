-- Words of the law of src/law.rt: that the machine gives each place what the serial run gives it, which is the correctness
-- of BOHM's execution (J. M. Faleiro and D. J. Abadi, "Rethinking Serializable Multiversion Concurrency Control", PVLDB 8,
-- 2015, section 3), here for what each place is shown, its words, the ends of records, and the rows and deeds after a
-- beginning of the batch.
use Rattle.std.specs.Prelude.{◌≡◌, ◌≢◌, ◌<◌, ◌+◌, ◌++◌, ℕ, suc, true, Option, Some, None, List, [], ◌∷◌, length, slice_get, slice_index_or}
use Rattle.model_base.specs.declared.deed.Deed.TheVariants.{Revoking}
use Rattle.model_base.specs.declared.deed.Grant.{Grant}
use Rattle.model_base.specs.declared.deed.Revocation.{Revocation}
use Rattle.model_base.specs.declared.row.Key.{Key}
use Rattle.model_base.specs.Privileges.{concerns}
use Rattle.model_base.specs.Records.{end_below}
use Rattle.bohm_core_base.specs.declared.event.Event.{Event}
use Rattle.bohm_core_base.specs.declared.event.Event.TheVariants.{Place, Claim, Fill, End, Finish, GiveBack}
use Rattle.bohm_core_base.specs.declared.hold.Hold.TheVariants.{Done}
use Rattle.bohm_core_base.specs.Deeds.{made_before}
use Rattle.bohm_core_base.specs.Batch.{Batch, batch_deeds, place_has_deed_on, is_listed, reference_words, batch_slots, table_at, was_done, writer_reference}
use Rattle.bohm_core_base.specs.Serial.{records_in, rows_at, serial_ends, serial_words, whole_end, batch_world_before}
use Rattle.bohm_core_base.specs.Machine.{State, all_past, all_ready, end_of, hold_of, must_end, own_of, records_seen, stored_references_of, row_by, rows_seen, words_seen}

-- who makes the event; a placer's has no actor
abbrev pub actor_of : Event → Option ℕ
actor_of (Place partition) = None
actor_of (Claim actor index) = Some actor
actor_of (Fill actor index) = Some actor
actor_of (End actor index slot) = Some actor
actor_of (Finish actor index) = Some actor
actor_of (GiveBack actor index) = Some actor

-- the place has the own words of the serial run, and each record that it ends there has it as its end
pub record IsSerialPlace (batch : Batch) (state : State) (index : ℕ) : Type 0 where
  pub words : own_of state index ≡ serial_words batch index
  pub ends : (slot : ℕ) → slot < length (batch_slots batch) → serial_ends batch index slot ≡ true
      → end_of state slot ≡ Some (batch.first + index)

-- the place is in the batch, every partition has placed it, and all its references are stored
pub record HasReferences (batch : Batch) (state : State) (index : ℕ) : Type 0 where
  pub within : index < batch.size
  pub placed : all_past state index ≡ true
  pub references : stored_references_of state index ≡ reference_words batch index

-- the state stores a front for each partition, references, a hold and own words for each place, and an end for each slot
pub record HasSizes (batch : Batch) (state : State) : Type 0 where
  pub fronts : length state.fronts ≡ batch.partitions
  pub references : length state.references ≡ batch.size
  pub holds : length state.holds ≡ batch.size
  pub own : length state.own ≡ batch.size
  pub ends : length state.ends ≡ length (batch_slots batch)

-- what the place is shown, and what it must store, is what the serial run shows it and what it stores there
pub record ShowsSerial (batch : Batch) (state : State) (index : ℕ) : Type 0 where
  -- the rows at its accesses are those before it
  pub rows : rows_seen batch state index ≡ rows_at (batch.accesses index) (batch_world_before batch index).rows
  -- the records on its tables are those before it
  pub records : records_seen batch state index ≡ records_in batch index (batch_world_before batch index)
  -- its own words by what it is shown are those of the serial run
  pub words : words_seen batch state index ≡ serial_words batch index
  -- once its outcome word is stored, it must end the records that it ends there
  pub ends : (slot : ℕ) → slot < length (batch_slots batch) → 0 < length (own_of state index)
      → must_end batch state index slot ≡ serial_ends batch index slot
  -- and that word is the serial run's
  pub outcome : 0 < length (own_of state index) → was_done (own_of state index) ≡ was_done (serial_words batch index)
  -- each place that it refers to has the own words of the serial run
  pub referred : (other number : ℕ) → number < length (reference_words batch index)
      → slice_index_or (reference_words batch index) number 0 ≡ suc other
      → own_of state other ≡ serial_words batch other
  -- so has each earlier place with a deed on one of its tables
  pub settled : (other table : ℕ) → other < index → is_listed (batch.tables index) table ≡ true → place_has_deed_on batch other table ≡ true
      → own_of state other ≡ serial_words batch other
  -- and the ends of the slots on its tables are, below it, those of the serial run
  pub told : (slot : ℕ) → slot < length (batch_slots batch) → is_listed (batch.tables index) (table_at batch slot) ≡ true
      → end_below (batch.first + index) (end_of state slot) ≡ end_below (batch.first + index) (whole_end batch slot)

-- each word and each end of the first state is in the second, and so does what was done and placed
pub record KeepsStored (before after : State) : Type 0 where
  pub words : (index : ℕ) → (rest : List ℕ) × (own_of before index ++ rest ≡ own_of after index)
  pub ends : (slot end : ℕ) → end_of before slot ≡ Some end → end_of after slot ≡ Some end
  -- a place that is done stays done
  pub holds : (index : ℕ) → hold_of before index ≡ Done → hold_of after index ≡ Done
  -- a place that every partition has placed stays so, and keeps its references
  pub placed : (index : ℕ) → all_past before index ≡ true → all_past after index ≡ true
  pub references : (index : ℕ) → all_past before index ≡ true → stored_references_of after index ≡ stored_references_of before index
  -- once all that such a place refers to is done, it stays so
  pub ready : (index : ℕ) → all_past before index ≡ true → all_ready before index ≡ true → all_ready after index ≡ true

-- the place is held and filled so far in the second state as in the first, is shown the same, and must store the same
pub record SameTask (batch : Batch) (before after : State) (index : ℕ) : Type 0 where
  pub hold : hold_of after index ≡ hold_of before index
  pub own : own_of after index ≡ own_of before index
  pub rows : rows_seen batch after index ≡ rows_seen batch before index
  pub records : records_seen batch after index ≡ records_seen batch before index
  pub words : words_seen batch after index ≡ words_seen batch before index
  pub ends : (slot : ℕ) → slot < length (batch_slots batch) → must_end batch after index slot ≡ must_end batch before index slot

-- none of the events is the actor's
abbrev pub NoneBy : ℕ → List Event → Type 0
NoneBy actor [] = Unit {0}
NoneBy actor (event ∷ events) = (actor_of event ≢ Some actor) × NoneBy actor events

-- the rows and deeds that the state stores for the places below a count are those after the serial run of these places
pub record IsWholeBelow (batch : Batch) (state : State) (count : ℕ) : Type 0 where
  -- the row of each key by the own words of its last writer below the count, or else before the batch
  pub rows : (key : Key) → row_by batch state key (writer_reference batch count key) ≡ (batch_world_before batch count).rows key
  -- the deeds before the batch, then in order those of the places below the count whose own words say that they were done
  pub deeds : made_before (batch_deeds batch (λ index. was_done (own_of state index))) count ≡ (batch_world_before batch count).deeds

-- the deed of the place is one revocation, of the kind and on the table of the slot's grant
pub record EndsByRevocation (batch : Batch) (index slot : ℕ) : Type 0 where
  pub within : index < batch.size
  pub revocation : Revocation
  pub deed : batch.deeds index ≡ Revoking revocation ∷ []
  pub concerned : (grant : Grant) → slice_get (batch_slots batch) slot ≡ Some grant → concerns revocation grant ≡ true
