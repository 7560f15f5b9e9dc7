-- What holds of each state that a list of events reaches: the clauses of the law of src/law.rt.
use Rattle.std.specs.Prelude.{◌≡◌, ◌≢◌, ◌<◌, ◌+◌, ◌++◌, ℕ, true, List, length}
use Rattle.model_base.specs.Records.{end_below}
use Rattle.bohm_core_base.specs.declared.hold.Hold.TheVariants.{Done, Free}
use Rattle.bohm_core_base.specs.Batch.{Batch, place_has_deed_on, is_listed, reference_words, batch_slots, table_at}
use Rattle.bohm_core_base.specs.Serial.{serial_words, whole_end}
use Rattle.bohm_core_base.specs.Machine.{State, all_past, all_ready, end_of, hold_of, own_of, stored_references_of}
use Rattle.bohm_core_base.specs.Laws.{HasReferences, IsWholeBelow, ShowsSerial}

-- each place below a count is done
abbrev pub AreDone : State → ℕ → Type 0
AreDone state count = (index : ℕ) → index < count → hold_of state index ≡ Done

-- what is stored is a beginning of what the serial run gives, and nothing is missing where places are done
pub record StoresSerial (batch : Batch) (state : State) : Type 0 where
  -- the words that any place has so far are a beginning of its words
  pub begun : (index : ℕ) → (rest : List ℕ) × (own_of state index ++ rest ≡ serial_words batch index)
  -- once all places are done, no end is missing
  pub kept_ends : (slot : ℕ) → AreDone state batch.size → slot < length (batch_slots batch)
      → end_of state slot ≡ whole_end batch slot
  -- once all places below a count are done, rows and deeds are those after the serial run of these places
  pub finished : (count : ℕ) → AreDone state count → IsWholeBelow batch state count

-- a place that is placed has its references, and only one that is taken, and whose references are done, has a word
pub record FollowsPlacing (batch : Batch) (state : State) : Type 0 where
  -- a place that every partition has placed has all its references
  pub referred : (index : ℕ) → index < batch.size → all_past state index ≡ true
      → stored_references_of state index ≡ reference_words batch index
  -- a place that has a word is held or done
  pub busy : (index : ℕ) → 0 < length (own_of state index) → hold_of state index ≢ Free
  -- and all that it refers to is done
  pub rested : (index : ℕ) → 0 < length (own_of state index)
      → HasReferences batch state index × (all_ready state index ≡ true)

-- the place is in the batch, every partition has placed it, and all that it refers to is done
pub record MayRun (batch : Batch) (state : State) (index : ℕ) : Type 0 where
  pub within : index < batch.size
  pub placed : all_past state index ≡ true
  pub ready : all_ready state index ≡ true

-- all that the place may read of the places before it is settled
pub record ReadsSettled (batch : Batch) (state : State) (index : ℕ) : Type 0 where
  -- each earlier place with a deed on one of its tables is done
  pub settled : (earlier table : ℕ) → is_listed (batch.tables index) table ≡ true
      → earlier < index → place_has_deed_on batch earlier table ≡ true → hold_of state earlier ≡ Done
  -- the ends of the records on its tables, as far as they lie below it, are those of the serial run
  pub end_told : (slot : ℕ) → is_listed (batch.tables index) (table_at batch slot) ≡ true
      → slot < length (batch_slots batch)
      → end_below (batch.first + index) (end_of state slot) ≡ end_below (batch.first + index) (whole_end batch slot)
  -- and it is shown what the serial run shows it
  pub shown : ShowsSerial batch state index
