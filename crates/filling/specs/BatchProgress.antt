-- How far a batch is completed: of its first places all that they store is stored, as the serial run gives it. The order of the log is that
-- of the transactions: J. M. Faleiro and D. J. Abadi, "Rethinking Serializable Multiversion Concurrency Control", PVLDB 8 (2015), section
-- 3.
use Rattle.std.specs.Prelude.{◌≡◌, ◌<◌, ◌+◌, ℕ, suc, [], length, slice_index, slice_index_or}
use Rattle.bohm_core_base.specs.Batch.{Batch, words_length}
use Rattle.bohm_core_base.specs.Serial.{serial_words}
use Rattle.words.specs.Closing.{ClosedLayout, HasItsReferences, claim_in, own_in}
use Rattle.filling.specs.declared.completion.ends.Ends.{Ends}
use Rattle.filling.specs.declared.completion.batch_progress.BatchProgress.{BatchProgress}
use Rattle.filling.specs.Ends.{AreSerialEnds, NotesEndsOf}

-- the own words of this many places are stored, and the ends of all records that they end are known
pub record IsDoneTo (batch : Batch) (count : ℕ) (progress : BatchProgress) : Type 0 where
  pub many : length progress.words ≡ count
  pub own : (index : ℕ) → index < count → slice_index_or progress.words index [] ≡ serial_words batch index
  pub ended : (index : ℕ) → index < count → NotesEndsOf batch index progress.ends
  pub told : AreSerialEnds batch progress.ends

-- the place comes next: all below it are completed, and the closed batch has its references
pub record ComesNext (batch : Batch) (closed : ClosedLayout) (index : ℕ) (progress : BatchProgress) : Type 0 where
  pub within : index < batch.size
  pub references : HasItsReferences batch closed
  pub stands : IsDoneTo batch index progress

-- a closed batch has the own words of each place that is done in it
pub record HasDone (batch : Batch) (closed : ClosedLayout) : Type 0 where
  pub begins : (index : ℕ) → index < batch.size → index < length closed.begins
  pub claims : (index : ℕ) → index < batch.size → slice_index closed.begins index < length closed.words
  pub owns : (index number : ℕ) → index < batch.size → number < words_length batch index
      → slice_index closed.begins index + suc number < length closed.words
  pub own : (index number : ℕ) → index < batch.size → number < words_length batch index → claim_in closed index ≡ 2
      → own_in closed index number ≡ slice_index_or (serial_words batch index) number 0

-- the ends that these places set are known
abbrev pub NotesEndsOfDone : Batch → ClosedLayout → Ends → Type 0
NotesEndsOfDone batch closed ends = (index : ℕ) → index < batch.size → claim_in closed index ≡ 2 → NotesEndsOf batch index ends
