-- What contracts see of the words and of a pass.
use Rattle.std.specs.Prelude.{◌≡◌, ◌<◌, ◌+◌, ◌-◌, ◌^◌, ℕ, suc, min, Bool, true, false, List, [], length, slice_index}
use Rattle.atomic_table.specs.Seated.{TableId}
use Rattle.atomic_table.specs.Table.{Me}
use Rattle.bohm_core_base.specs.Batch.{Batch}
use Rattle.words.specs.declared.knowledge.Knowledge.{Knowledge}
use Rattle.words.specs.Layout.{block_begin, end_begin, front_begin, reference_begin, total}
use Rattle.words.specs.Views.{HoldsNone, first_view, front_in, joined, placer_view, split_left, split_right}

-- the words of a batch: the table that they are, and the batch with what is listed
pub record Words (K : Type 0) : Type 0 where
  pub table : TableId
  pub key : K

-- a pass: its table, its number there, what it knows, and how many bodies were run through it
pub record PassState : Type 0 where
  pub table : TableId
  pub number : ℕ
  pub view : Knowledge
  pub bodies : ℕ

-- the pass is one of these words
abbrev pub IsPassOf : {K : Type 0} → Words K → PassState → Type 0
IsPassOf words pass = pass.table ≡ words.table

-- the pass has gone on to this view
abbrev pub gone_on : PassState → Knowledge → PassState
gone_on pass view = record pass { view = view }

-- no other took it in, it isn't a placer, and it has no slot of the table
pub record IsAlive (me : Me ℕ Knowledge) (knows : Bool) : Type 0 where
  pub bare : me.1 ≡ []
  pub alive : me.0.spent ≡ false
  pub pass : me.0.placer ≡ false
  -- it knows that all is placed exactly where it says so
  pub placed : knows ≡ me.0.placed

-- and it holds no place
pub record IsIdle (me : Me ℕ Knowledge) (knows : Bool) : Type 0 where
  pub bare : me.1 ≡ []
  pub alive : me.0.spent ≡ false
  pub pass : me.0.placer ≡ false
  pub placed : knows ≡ me.0.placed
  pub idle : HoldsNone me.0

-- a placer: its table, its number there, and what it did
pub record PlacerState : Type 0 where
  pub table : TableId
  pub number : ℕ
  pub view : Knowledge

-- the placer is one of these words
abbrev pub IsPlacerOf : {K : Type 0} → Words K → PlacerState → Type 0
IsPlacerOf words placer = placer.table ≡ words.table

-- the placer has gone on to this view
abbrev pub placed_on : PlacerState → Knowledge → PlacerState
placed_on placer view = record placer { view = view }

-- the view is that of the placer of this partition, which has placed this many places
pub record IsPlacer (me : Me ℕ Knowledge) (number count : ℕ) : Type 0 where
  pub bare : me.1 ≡ []
  pub alive : me.0.spent ≡ false
  pub places : me.0.placer ≡ true
  pub partition : number ≡ me.0.partition
  pub front : count ≡ front_in me.0

-- where the blocks begin, and after them the references
pub record AreBlocks (batch : Batch) (begins : List ℕ) (last : ℕ) : Type 0 where
  pub every : length begins ≡ batch.size
  pub begin : (index : ℕ) → index < batch.size → slice_index begins index ≡ block_begin batch index
  pub end : last ≡ block_begin batch batch.size

-- where the references of each place begin, and after them the fronts
pub record AreReferences (batch : Batch) (begins : List ℕ) (last : ℕ) : Type 0 where
  pub every : length begins ≡ batch.size
  pub begin : (index : ℕ) → index < batch.size → slice_index begins index ≡ reference_begin batch index
  pub end : last ≡ front_begin batch

-- where the words lie
pub record IsLaid
    (batch : Batch) (listed : List ℕ) (table : TableId) (places : ℕ) (begins references : List ℕ) (fronts ends count : ℕ) : Type 0 where
  pub slots : table.slots ≡ 0
  pub words : table.words ≡ count
  pub size : batch.size ≡ places
  pub some : 0 < places
  pub begin : (index : ℕ) → index < batch.size → slice_index begins index ≡ block_begin batch index
  pub every : length begins ≡ places
  pub reference : (index : ℕ) → index < batch.size → slice_index references index ≡ reference_begin batch index
  pub every_reference : length references ≡ places
  pub front : fronts ≡ front_begin batch
  pub end : ends ≡ end_begin batch
  pub all : count ≡ total batch listed
  pub few : count < 2 ^ 64

-- one more body was run through the pass; the count stops at the greatest number
abbrev pub counted : PassState → PassState
counted pass = record pass { bodies = min (suc pass.bodies) (2 ^ 64 - 1) }

-- the first pass of a batch, by whether all of it is placed
abbrev pub begun_pass : {K : Type 0} → Words K → Bool → PassState
begun_pass words placed = record { table = words.table; number = 0; view = first_view placed; bodies = 0 }

-- of one of which all is placed, and of one of which nothing is placed yet
abbrev pub first_pass : {K : Type 0} → Words K → PassState
first_pass words = begun_pass words true

abbrev pub open_pass : {K : Type 0} → Words K → PassState
open_pass words = begun_pass words false

-- the placer of a partition that was cut from a pass, whose number is a new one
abbrev pub cut_placer : PassState → ℕ → ℕ → PlacerState
cut_placer pass partition number = record { table = pass.table; number = number; view = placer_view partition }

-- the part of a split pass that goes on
abbrev pub cut_first : PassState → PassState
cut_first pass = record pass { view = split_left pass.view }

-- and the one that begins, whose number is a new one
abbrev pub cut_second : PassState → ℕ → PassState
cut_second pass number = record { table = pass.table; number = number; view = split_right pass.view; bodies = 0 }

-- a pass that took in another
abbrev pub joined_pass : PassState → PassState → PassState
joined_pass pass other = record {
  table = pass.table;
  number = pass.number;
  view = joined pass.view other.number other.view;
  bodies = min (pass.bodies + other.bodies) (2 ^ 64 - 1);
}
