-- What the words of a closed batch say.
use Rattle.std.specs.Prelude.{◌≡◌, ◌⊎◌, ◌<◌, ◌+◌, nat_lt, ℕ, suc, true, Some, List, length, slice_index, slice_index_or, if◌then◌else◌}
use mathlib.Core.Option.{some}
use lib.ListN.{get_elem?}
use Rattle.bohm_core_base.specs.Batch.{Batch, reference_words, words_length}
use Rattle.bohm_core_base.specs.Serial.{serial_ends, serial_words, whole_end}
use Rattle.words.specs.declared.knowledge.Knowledge.{Knowledge}
use Rattle.words.specs.Layout.{listed_slot_at, reference_at}
use Rattle.words.specs.Legal.{legal}

-- the words of a closed batch, with where the block of each place and where its references begin, and where the ends begin
pub record ClosedLayout : Type 0 where
  pub begins : List ℕ
  pub references : List ℕ
  pub ends : ℕ
  pub words : List ℕ

-- the claim of a place, its own word of a number, its reference of a number, and a listed end
abbrev pub claim_in : ClosedLayout → ℕ → ℕ
claim_in layout index = slice_index layout.words (slice_index layout.begins index)

abbrev pub own_in : ClosedLayout → ℕ → ℕ → ℕ
own_in layout index number = slice_index layout.words (slice_index layout.begins index + suc number)

abbrev pub reference_in : ClosedLayout → ℕ → ℕ → ℕ
reference_in layout index number = slice_index layout.words (slice_index layout.references index + number)

abbrev pub end_word_in : ClosedLayout → ℕ → ℕ
end_word_in layout end = slice_index layout.words (layout.ends + end)

-- the rule holds of these words and of the last views, and one of them is this pass's
abbrev pub LastWith : Batch → List ℕ → List ℕ → ℕ → Knowledge → Type 0
LastWith batch listed words number view =
    (views : List Knowledge) × legal batch listed words views × (get_elem? views number ≡ some view)

-- the own words of a place are this many first ones of the serial run, and 0 after them
abbrev pub HasBeginning : Batch → ClosedLayout → ℕ → ℕ → Type 0
HasBeginning batch layout index count =
    (number : ℕ) → number < words_length batch index
    → own_in layout index number ≡ (if nat_lt number count then slice_index_or (serial_words batch index) number 0 else 0)

pub record IsSettledBy (batch : Batch) (listed : List ℕ) (layout : ClosedLayout) : Type 0 where
  -- there is a word for each claim, own word and listed end
  pub begins : (index : ℕ) → index < batch.size → index < length layout.begins
  pub claims : (index : ℕ) → index < batch.size → slice_index layout.begins index < length layout.words
  pub owns : (index number : ℕ) → index < batch.size → number < words_length batch index
      → slice_index layout.begins index + suc number < length layout.words
  pub enders : (end : ℕ) → end < length listed → layout.ends + end < length layout.words
  -- a place whose claim is done has the own words of the serial run, and has set the ends that it sets there
  pub own : (index number : ℕ) → index < batch.size → number < words_length batch index → claim_in layout index ≡ 2
      → own_in layout index number ≡ slice_index_or (serial_words batch index) number 0
  pub ended : (index end : ℕ) → index < batch.size → end < length listed → serial_ends batch index (listed_slot_at listed end) ≡ true
      → claim_in layout index ≡ 2 → end_word_in layout end ≡ suc (batch.first + index)
  -- the own words of any place are a beginning of the serial run's, and no end is another than the serial run's
  pub begun : (index : ℕ) → index < batch.size → (count : ℕ) × HasBeginning batch layout index count
  pub end : (end : ℕ) → end < length listed
      → (end_word_in layout end ≡ 0) ⊎ ((place : ℕ) × (end_word_in layout end ≡ suc place)
      × (whole_end batch (listed_slot_at listed end) ≡ Some place))

-- the references of every place are the batch's
pub record HasItsReferences (batch : Batch) (layout : ClosedLayout) : Type 0 where
  pub begins : (index : ℕ) → index < batch.size → index < length layout.references
  pub within : (index number : ℕ) → index < batch.size → number < length (reference_words batch index)
      → slice_index layout.references index + number < length layout.words
  pub right : (index number : ℕ) → index < batch.size → number < length (reference_words batch index)
      → reference_in layout index number ≡ reference_at batch index number
