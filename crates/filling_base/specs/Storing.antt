-- What is stored of a place, and which ends it has to set.
use Rattle.std.specs.Prelude.{◌≡◌, ◌≢◌, ◌<◌, ℕ, zero, suc, true, List, [], ◌∷◌, ◌++◌, length, slice_index_or}
use Rattle.bohm_core_base.specs.Batch.{Batch, batch_slots}
use Rattle.bohm_core_base.specs.Serial.{serial_ends}
use Rattle.words.specs.declared.knowledge.Knowledge.{Knowledge}
use Rattle.words.specs.Layout.{listed_slot_at}
use Rattle.words.specs.Views.{Holds}
use Rattle.filling_base.specs.Counting.{finished_places}
use Rattle.filling_base.specs.Extending.{Extends, HoldsOthers, NoPlace}

-- the pass holds the place, with this many words stored and the ends of these slots, and finished none; of the others it holds the same
pub record Stores (index : ℕ) (view after : Knowledge) (count : ℕ) (ended : List ℕ) : Type 0 where
  pub goes : Extends NoPlace view after
  pub finishes : finished_places after.events ≡ finished_places view.events
  pub sightings : after.sightings ≡ view.sightings
  pub others : HoldsOthers index view after
  pub holds : Holds after index count ended

-- the slot of the end of a number in the list of those to be set
abbrev pub slot_of : List ℕ → List ℕ → ℕ → ℕ
slot_of listed ends number = listed_slot_at listed (slice_index_or ends number 0)

-- the slots of the first this many
abbrev pub ended_below : List ℕ → List ℕ → ℕ → List ℕ
ended_below listed ends zero = []
ended_below listed ends (suc number) = ended_below listed ends number ++ slot_of listed ends number ∷ []

-- these listed ends, each once, are those of all the records that the place ends in the serial run
pub record IsEnding (batch : Batch) (listed : List ℕ) (index : ℕ) (ends : List ℕ) : Type 0 where
  pub within : (number : ℕ) → number < length ends → slice_index_or ends number 0 < length listed
  pub right : (number : ℕ) → number < length ends → serial_ends batch index (slot_of listed ends number) ≡ true
  pub once : (number other : ℕ) → number < other → other < length ends → slot_of listed ends number ≢ slot_of listed ends other
  pub all : (slot : ℕ) → slot < length (batch_slots batch) → serial_ends batch index slot ≡ true
      → (number : ℕ) × (number < length ends) × (slot_of listed ends number ≡ slot)
