-- What the words of a batch are for, where they lie, and what they show of a state of the machine. A place is unprocessed,
-- executing or complete, and its versions are placeholders until they are filled: J. M. Faleiro and D. J. Abadi, "Rethinking
-- Serializable Multiversion Concurrency Control", PVLDB 8 (2015), section 3. That a place has one word for its claim and
-- some of its own, that a record that may be ended has one, and how all lie in memory, is this project's own.
use Rattle.std.specs.Prelude.{◌≡◌, ◌<◌, ◌+◌, ◌*◌, ◌/◌, ℕ, zero, suc, true, Option, Some, None, List, length, slice_index, slice_index_or}
use Rattle.bohm_core_base.specs.declared.hold.Hold.{Hold}
use Rattle.bohm_core_base.specs.declared.hold.Hold.TheVariants.{Free, Held, Done}
use Rattle.bohm_core_base.specs.Batch.{Batch, batch_slots, reference_words, words_length}
use Rattle.bohm_core_base.specs.Machine.{State, end_of, front_of, hold_of, own_of, start, stored_references_of}
use Rattle.bohm_core_base.specs.Serial.{serial_ends}
use Rattle.words.specs.Views.{In}

-- what a word is for: the claim of a place, one of its own words, one of its references, the front of a partition, or one of
-- the listed ends
pub data Meaning : Type 0 where
  claim_word : ℕ → Meaning
  own_word : ℕ → ℕ → Meaning
  reference_word : ℕ → ℕ → Meaning
  front_word : ℕ → Meaning
  end_word : ℕ → Meaning

-- the reference of a place with this number: 0 for what was there before the batch, or one more than the index of a place
abbrev pub reference_at : Batch → ℕ → ℕ → ℕ
reference_at batch index number = slice_index_or (reference_words batch index) number 0

-- its partition
abbrev pub partition_at : Batch → ℕ → ℕ → ℕ
partition_at batch index number = slice_index_or (batch.partitions_of index) number 0

-- a claim as a word
abbrev pub claim_code : Hold → ℕ
claim_code Free = 0
claim_code (Held actor) = 1
claim_code Done = 2

-- a number that may be missing as a word, as an end or a reference: 0 for none, else one more than the number
abbrev pub optional_word : Option ℕ → ℕ
optional_word None = 0
optional_word (Some number) = suc number

-- the number of such a word
abbrev pub optional_in : ℕ → Option ℕ
optional_in zero = None
optional_in (suc number) = Some number

-- the slot of a listed end
abbrev pub listed_slot_at : List ℕ → ℕ → ℕ
listed_slot_at listed end = slice_index_or listed end 0

-- the listed slots are slots of the batch without an end before it, each once, and every slot whose record a place of the
-- batch ends by the serial run is among them
pub record IsListed (batch : Batch) (listed : List ℕ) : Type 0 where
  pub within : (end : ℕ) → end < length listed → listed_slot_at listed end < length (batch_slots batch)
  pub unended : (end : ℕ) → end < length listed → end_of (start batch) (listed_slot_at listed end) ≡ None
  pub apart : (end other : ℕ) → end < length listed → other < length listed
      → listed_slot_at listed end ≡ listed_slot_at listed other → end ≡ other
  pub every : (index slot : ℕ) → slot < length (batch_slots batch) → serial_ends batch index slot ≡ true → In slot listed

-- how many words the block of a place has: its claim, its own words, and as many more as make whole groups of eight
abbrev pub block_length : Batch → ℕ → ℕ
block_length batch index = (words_length batch index / 8 + 1) * 8

-- where the block of a place begins: after those of all places before it
abbrev pub block_begin : Batch → ℕ → ℕ
block_begin batch zero = 0
block_begin batch (suc index) = block_begin batch index + block_length batch index

-- where the references of a place begin: after all blocks, and after those of all places before it
abbrev pub reference_begin : Batch → ℕ → ℕ
reference_begin batch zero = block_begin batch batch.size
reference_begin batch (suc index) = reference_begin batch index + length (reference_words batch index)

-- where the fronts begin: after all references; each has a group of eight words for itself
abbrev pub front_begin : Batch → ℕ
front_begin batch = reference_begin batch batch.size

-- where the ends begin: after all fronts
abbrev pub end_begin : Batch → ℕ
end_begin batch = front_begin batch + batch.partitions * 8

-- how many words there are
abbrev pub total : Batch → List ℕ → ℕ
total batch listed = end_begin batch + length listed

-- whether there is such a word
abbrev pub Has : Batch → List ℕ → Meaning → Type 0
Has batch listed (claim_word index) = index < batch.size
Has batch listed (own_word index number) = (index < batch.size) × (number < words_length batch index)
Has batch listed (reference_word index number) = (index < batch.size) × (number < length (reference_words batch index))
Has batch listed (front_word partition) = partition < batch.partitions
Has batch listed (end_word end) = end < length listed

-- where the word lies: the claim of a place is before its own words
abbrev pub position : Batch → Meaning → ℕ
position batch (claim_word index) = block_begin batch index
position batch (own_word index number) = block_begin batch index + suc number
position batch (reference_word index number) = reference_begin batch index + number
position batch (front_word partition) = front_begin batch + partition * 8
position batch (end_word end) = end_begin batch + end

-- what the word shows of a state: an own word that isn't stored yet is 0
abbrev pub shown : List ℕ → State → Meaning → ℕ
shown listed state (claim_word index) = claim_code (hold_of state index)
shown listed state (own_word index number) = slice_index_or (own_of state index) number 0
shown listed state (reference_word index number) = slice_index_or (stored_references_of state index) number 0
shown listed state (front_word partition) = front_of state partition
shown listed state (end_word end) = optional_word (end_of state (listed_slot_at listed end))

-- a reference counts only below the front of its partition, and every other word does
abbrev pub Counts : Batch → State → Meaning → Type 0
Counts batch state (claim_word index) = Unit {0}
Counts batch state (own_word index number) = Unit {0}
Counts batch state (reference_word index number) = index < front_of state (partition_at batch index number)
Counts batch state (front_word partition) = Unit {0}
Counts batch state (end_word end) = Unit {0}

-- the words show the state
pub record ShowsState (batch : Batch) (listed words : List ℕ) (state : State) : Type 0 where
  pub wide : length words ≡ total batch listed
  pub at : (meaning : Meaning) → Has batch listed meaning → Counts batch state meaning
      → slice_index words (position batch meaning) ≡ shown listed state meaning
