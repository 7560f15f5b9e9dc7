-- By what a place of a batch is judged: the own words of the places that it refers to, whether the deeds before it on its
-- tables were made, and the ends of the records on its tables, each as the serial run of the batch has it. A read goes by a
-- reference to the newest version that is older than the reader, which is complete before the reader runs: J. M. Faleiro and
-- D. J. Abadi, "Rethinking Serializable Multiversion Concurrency Control", PVLDB 8 (2015), section 3; that deeds are read in
-- the same way is this project's own.
use Rattle.std.specs.Prelude.{◌≡◌, ◌<◌, ◌+◌, ℕ, Bool, suc, zero, false, true, Option, None, Some, List, [], length, map, slice_index_or}
use Rattle.model_base.specs.declared.deed.Grant.{Grant}
use Rattle.model_base.specs.declared.row.Key.{Key}
use Rattle.model_base.specs.Ranks.{rank}
use Rattle.model_base.specs.Records.{end_after}
use Rattle.bohm_core_base.specs.declared.event.Event.{Event}
use Rattle.bohm_core_base.specs.Batch.{Batch, Row, batch_deeds, cell, place_has_deed_on, is_listed, reference_words, batch_slots, was_done}
use Rattle.bohm_core_base.specs.Deeds.{is_made}
use Rattle.bohm_core_base.specs.Serial.{serial_words, batch_world_before}
use Rattle.log_batch.specs.Supplied.{LogRange, batch_of}

-- a place of a batch, by its index
pub record Reader : Type 0 where
  pub batch : Batch
  pub index : ℕ

-- a place of a log's range, by its index, and as a reader
pub record RangePlace : Type 0 where
  pub ranged : LogRange
  pub index : ℕ

abbrev pub reader_of : RangePlace → Reader
reader_of place = record { batch = batch_of place.ranged; index = place.index }

-- the place of the log that the reader has, in a range of it
abbrev pub place_in_log : LogRange → Reader → ℕ
place_in_log ranged reader = ranged.first + reader.index

-- what a reader did itself that is a pass over shared words: its number and its events, the events of passes that it took in,
-- when it found which places held, how many bodies it ran, whether it is the only pass, whether it was taken in,
-- what it knows of the fronts of partitions, and whether it knows that all is placed
pub record PassWork : Type 0 where
  pub number : ℕ
  pub events : List Event
  pub taken : List (ℕ × List Event)
  pub sightings : List (ℕ × ℕ)
  pub bodies : ℕ
  pub sole : Bool
  pub spent : Bool
  pub fronts : List (ℕ × ℕ)
  pub placed : Bool

-- of a reader of which nobody asks that
abbrev pub no_work : PassWork
no_work = record {
  number = 0;
  events = [];
  taken = [];
  sightings = [];
  bodies = 0;
  sole = false;
  spent = false;
  fronts = [];
  placed = false;
}

-- a reference to the place of an index, or to what was there before the batch, as the machine keeps it
abbrev pub referred_word : Option ℕ → ℕ
referred_word None = 0
referred_word (Some index) = suc index

-- the reader is in a batch, and refers to the place of an index
pub record IsReferred (reader : Reader) (other : ℕ) : Type 0 where
  pub number : ℕ
  pub within : number < length (reference_words reader.batch reader.index)
  pub here : slice_index_or (reference_words reader.batch reader.index) number 0 ≡ suc other

-- the place of an index lies before the reader, and has a deed on a table of the reader
pub record IsDeedBefore (reader : Reader) (other : ℕ) : Type 0 where
  pub before : other < reader.index
  pub table : ℕ
  pub listed : is_listed (reader.batch.tables reader.index) table ≡ true
  pub deed : place_has_deed_on reader.batch other table ≡ true

-- the row that a reference shows in the serial run: for 0 that before the batch, and else the one in the version cells of the
-- place whose index is one less
abbrev pub row_referred : Batch → Key → ℕ → Row
row_referred batch key zero = batch.base key
row_referred batch key (suc index) = cell batch index (serial_words batch index) key

-- whether the serial run makes the deeds of a place of the log
abbrev pub made_whole : Batch → ℕ → Bool
made_whole batch = is_made (batch_deeds batch (λ index. was_done (serial_words batch index)))

-- the end that the record of a rank has after the serial run of the batch
abbrev pub end_whole : Batch → ℕ → Option ℕ
end_whole batch ranked = end_after batch.owners [] (batch_world_before batch batch.size).deeds ranked

-- those of all slots
abbrev pub ends_whole : Batch → List (Option ℕ)
ends_whole batch = map (λ (grant : Grant). end_whole batch (rank grant)) (batch_slots batch)
