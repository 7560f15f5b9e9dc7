-- A row of words in which references and fronts are stored before it is shared.
use Rattle.std.specs.Prelude.{◌≡◌, ◌⊎◌, ◌<◌, ℕ, Bool, true, false, List, length, slice_index}
use Rattle.bohm_core_base.specs.Batch.{Batch, reference_words}
use Rattle.words.specs.Layout.{Has, Meaning, claim_word, end_word, front_word, own_word, position, reference_at, reference_word, total}

-- whether a word is neither a reference nor a front
abbrev pub is_other : Meaning → Bool
is_other (claim_word index) = true
is_other (own_word index number) = true
is_other (reference_word index number) = false
is_other (front_word partition) = false
is_other (end_word end) = true

-- the references of the places below an index, this many of that place's, and this many fronts are stored; all other words are 0
pub record IsWritten (batch : Batch) (listed row : List ℕ) (index number partition : ℕ) : Type 0 where
  pub wide : length row ≡ total batch listed
  pub references : (place reference : ℕ) → place < batch.size → reference < length (reference_words batch place)
      → (place < index) ⊎ ((place ≡ index) × (reference < number))
      → slice_index row (position batch (reference_word place reference)) ≡ reference_at batch place reference
  pub fronts : (other : ℕ) → other < partition → other < batch.partitions
      → slice_index row (position batch (front_word other)) ≡ batch.size
  pub others : (meaning : Meaning) → Has batch listed meaning → is_other meaning ≡ true → slice_index row (position batch meaning) ≡ 0
