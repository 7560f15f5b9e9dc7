-- A pass that reads for a place which it is about to fill.
use Rattle.std.specs.Prelude.{◌≡◌, ◌<◌, ◌+◌, ℕ, true, Option, Some, List}
use Rattle.model_base.specs.Records.{end_below}
use Rattle.bohm_core_base.specs.Batch.{Batch, is_listed, table_at}
use Rattle.bohm_core_base.specs.Serial.{whole_end}
use Rattle.log_batch.specs.Supplied.{LogRange, batch_of}
use Rattle.filling.specs.Keys.{Key}
use Rattle.evaluation.specs.ReadSource.{Reader, PassWork}
use Rattle.words.specs.declared.knowledge.Knowledge.{Knowledge}
use Rattle.words.specs.Passes.{IsPassOf, PassState, Words}
use Rattle.words.specs.Views.{In, KnowsPast, KnowsReferences}

-- all of a pass but what it knows
abbrev pub work_of : PassState → PassWork
work_of pass = record {
  number = pass.number;
  events = pass.view.events;
  taken = pass.view.kept;
  sightings = pass.view.sightings;
  bodies = pass.bodies;
  sole = pass.view.sole;
  spent = pass.view.spent;
  fronts = pass.view.fronts;
  placed = pass.view.placed;
}

-- a place of a log's range, by its index, and what the pass did that reads for it
pub record PlaceReading : Type 0 where
  pub ranged : LogRange
  pub index : ℕ
  pub work : PassWork

-- the place, as a reader
abbrev pub reader_in : PlaceReading → Reader
reader_in reading = record { batch = batch_of reading.ranged; index = reading.index }

-- for each place of which it is known that all its references are done, and on one of whose tables the slot's grant is, this end gives
-- below the place what that of the serial run does
abbrev pub IsEndBelow : Batch → Knowledge → ℕ → Option ℕ → Type 0
IsEndBelow batch view slot end =
    (index : ℕ) → index < batch.size → KnowsReferences batch view index → is_listed (batch.tables index) (table_at batch slot) ≡ true
    → end_below (batch.first + index) end ≡ end_below (batch.first + index) (whole_end batch slot)

-- what was known before is known
abbrev pub KeepsKnown : List ℕ → List ℕ → Type 0
KeepsKnown known after = (index : ℕ) → In index known → In index after

-- the pass is one of the words, which are those of the key
pub record IsPassIn {K : Type 0} (words : Words K) (mine : K) (pass : PassState) : Type 0 where
  pub same_table : IsPassOf words pass
  pub key : words.key ≡ mine

-- the pass is one of the words, which are those of the key, and knows the place placed and all done that it is referred to
pub record CanRead (words : Words Key) (mine : Key) (pass : PassState) (at : ℕ) : Type 0 where
  pub same_table : IsPassOf words pass
  pub key : words.key ≡ mine
  pub within : at < mine.batch.size
  pub past : KnowsPast (batch_of mine.batch) pass.view at
  pub ready : KnowsReferences (batch_of mine.batch) pass.view at

-- and the words are those that were named before it began, and all is known that was known then
pub record IsReadingPass (words : Words Key) (mine : Key) (pass : PassState) (at : ℕ) (first : Option (Words Key))
    (old : List ℕ) : Type 0 where
  pub reads : CanRead words mine pass at
  pub named : Some words ≡ first
  pub knows : KeepsKnown old pass.view.known

-- the pass is one of the words, which are those of the key, and knows the place done
pub record KnowsDone (words : Words Key) (mine : Key) (pass : PassState) (at : ℕ) : Type 0 where
  pub same_table : IsPassOf words pass
  pub key : words.key ≡ mine
  pub within : at < mine.batch.size
  pub known : In at pass.view.known
