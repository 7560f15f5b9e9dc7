-- A placer of a batch of a log. Each partition is gone through in the order of the log, without a look at another one: J. M.
-- Faleiro and D. J. Abadi, "Rethinking Serializable Multiversion Concurrency Control", PVLDB 8 (2015), section 3. That places
-- are run while later ones are still placed is this project's own.
use Rattle.std.specs.Prelude.{◌≡◌, ◌<◌, ◌≤◌, ◌+◌, ℕ, Option, None, Some, Result, Ok, Err, List, length, slice_get}
use Rattle.std.specs.declared.alloc.AllocError.{AllocError}
use Rattle.std.specs.List.{range_with_len}
use Rattle.model_base.specs.declared.statement.Statement.{Statement}
use Rattle.placing.specs.declared.latest.Latest.{Latest}
use Rattle.placing.specs.Latest.{IsLatest, IsUpTo}
use Rattle.bohm_core_base.specs.Batch.{Batch, reference_words}
use Rattle.log_batch.specs.Laws.{IsOfLog}
use Rattle.log_batch.specs.Supplied.{LogRange, range_of}
use Rattle.filling.specs.Keys.{Key}
use Rattle.words.specs.declared.knowledge.Knowledge.{Knowledge}
use Rattle.words.specs.Layout.{partition_at}
use Rattle.words.specs.Passes.{IsPlacerOf, PlacerState, Words, placed_on}
use Rattle.words.specs.Views.{In, front_in, placer_view, with_placing}
use Rattle.filling.specs.declared.placer.Placer.{Placer}

-- how many places it has placed, which is the index of the one that it places next
abbrev pub placer_front : Placer → ℕ
placer_front placer = front_in placer.token.view

-- it is a placer of this batch, for one of its partitions, and keeps what it needs for the place at its front
pub record IsPlacerIn (words : Words Key) (placer : Placer) : Type 0 where
  pub same_table : IsPlacerOf words placer.token
  pub within : placer.token.view.partition < words.key.batch.partitions
  pub most : placer_front placer ≤ words.key.batch.size
  pub partition : placer.finder.latest.partition ≡ placer.token.view.partition
  pub partitions : placer.finder.latest.partitions ≡ words.key.batch.partitions
  pub up_to : IsUpTo placer.finder.latest words.key.batch.log.statements words.key.batch.first (placer_front placer)

-- the placer of a partition that has placed nothing
abbrev pub IsNewPlacer : Words Key → ℕ → Placer → Type 0
IsNewPlacer words partition placer = IsPlacerIn words placer × (placer.token.view ≡ placer_view partition)

-- there is one for each of this many partitions, in order
pub record AreNewPlacers (words : Words Key) (partitions : ℕ) (placers : List Placer) : Type 0 where
  pub every : length placers ≡ partitions
  pub each : (partition : ℕ) (placer : Placer) → slice_get placers partition ≡ Some placer → IsNewPlacer words partition placer

-- the placers of the first this many partitions were cut from the pass
abbrev pub with_all_cut : Knowledge → ℕ → Knowledge
with_all_cut view partitions = record view { cut = range_with_len 0 partitions }

-- the outcome of a step: the place at the front was placed, or there was none any more, or memory ran out, and then neither the words
-- nor the place at the front are others
abbrev pub AdvancedMeans : LogRange → Placer → Result (Option ℕ) AllocError → Placer → Type 0
AdvancedMeans ranged placer (Ok (Some place)) after =
    (placer_front placer < ranged.size) × (place ≡ ranged.first + placer_front placer)
    × (after.token ≡ placed_on placer.token (with_placing placer.token.view))
AdvancedMeans ranged placer (Ok None) after = (placer_front placer ≡ ranged.size) × (after ≡ placer)
AdvancedMeans ranged placer (Err _) after = (placer_front placer < ranged.size) × (after.token ≡ placer.token)

-- the words are those of the key; the place at the front is one of the batch, which is of a log, and has this statement, and the placer
-- keeps all places below it
pub record IsAt (words : Words Key) (mine : Key) (token : PlacerState) (kept : Latest) (statement : Statement) : Type 0 where
  pub same_table : IsPlacerOf words token
  pub key : words.key ≡ mine
  pub of_log : IsOfLog (range_of words.key.batch)
  pub within : front_in token.view < words.key.batch.size
  pub at : slice_get words.key.batch.log.statements (words.key.batch.first + front_in token.view) ≡ Some statement
  pub partition : kept.partition ≡ token.view.partition
  pub partitions : kept.partitions ≡ words.key.batch.partitions
  pub latest : IsLatest kept words.key.batch.log.statements words.key.batch.first (words.key.batch.first + front_in token.view)

-- of the references of the place at the front, those below a number that are into the placer's partition are stored
abbrev pub StoredBelow : Batch → Knowledge → ℕ → Type 0
StoredBelow batch view count =
    (number : ℕ) → number < count → number < length (reference_words batch (front_in view))
    → partition_at batch (front_in view) number ≡ view.partition → In number view.stored

-- the placer with these stored
abbrev pub storing : PlacerState → List ℕ → PlacerState
storing token stored = placed_on token (record token.view { stored = stored })

-- it only stored references
abbrev pub OnlyStores : PlacerState → PlacerState → Type 0
OnlyStores token after = after ≡ storing token after.view.stored
