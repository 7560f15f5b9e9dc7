-- The outcome of a place that is asked for.
use Rattle.std.specs.Prelude.{◌≡◌, ◌⊎◌, ℕ, ◌<◌, ◌≤◌, ◌+◌, true, [], ◌∷◌, ◌++◌, length, Result, Ok, Err, List, false}
use Rattle.std.specs.declared.alloc.AllocError.{AllocError}
use Rattle.bohm_core_base.specs.Batch.{Batch}
use Rattle.words.specs.declared.knowledge.Knowledge.{Knowledge}
use Rattle.words.specs.Views.{HoldsNone, In, IsSettled, KnowsFront, KnowsPast, KnowsReferences}
use Rattle.filling_base.specs.declared.run.Tried.{Tried}
use Rattle.filling_base.specs.declared.run.Tried.TheVariants.{Done, Busy, NotPlaced}
use Rattle.filling_base.specs.Extending.{Finishes, Extends, HoldsJust, NoPlace, OnlyLearns}
use Rattle.filling_base.specs.References.{IsRevocation}

-- what the pass knows says that the place is done
abbrev pub IsKnownDone : Batch → Knowledge → ℕ → Type 0
IsKnownDone batch view index = In index view.known ⊎ IsSettled batch view index

-- the pass doesn't know done all that the place is referred to
abbrev pub HasToWait : Batch → Knowledge → ℕ → Type 0
HasToWait batch view index = ¬ (KnowsReferences batch view index)

-- the place may be given back for lack of memory
abbrev pub MayLackMemory : Batch → Knowledge → ℕ → Type 0
MayLackMemory batch view index = HasToWait batch view index ⊎ IsRevocation batch index

-- a place, at most the one asked for, was found held by another pass when this one had this many events, as many as the call began with at
-- least; the pass isn't a sole one, and couldn't say that the place is done
pub record MeetsHeld (batch : Batch) (index other : ℕ) (view after : Knowledge) : Type 0 where
  pub most : other ≤ index
  pub shared : view.sole ≡ false
  pub untold : ¬ (IsKnownDone batch view other)
  pub count : ℕ
  pub began : length view.events ≤ count
  pub ended : count ≤ length after.events
  pub sighting : after.sightings ≡ view.sightings ++ (other, count) ∷ []

-- a partition was found not to have placed the place, and nothing else was done; the pass didn't know that it has
pub record MeetsUnplaced (batch : Batch) (index partition : ℕ) (view after : Knowledge) : Type 0 where
  pub learns : OnlyLearns view after
  pub within : partition < batch.partitions
  pub unknown : ¬ (KnowsFront view partition index)
  pub undone : ¬ (In index view.known)
  pub found : ℕ
  pub short : found ≤ index
  -- the last front that it found in this call, after such as are past the place
  pub past : List (ℕ × ℕ × ℕ)
  pub sighting : after.front_sightings ≡ view.front_sightings ++ (past ++ (partition, found, length view.events) ∷ [])

-- the pass only learnt, and knows each front past the last place, and, if there is a front, that all is placed; or it was
-- found that one isn't
pub record PlacedMeans (batch : Batch) (view after : Knowledge) : Type 0 where
  pub learns : OnlyLearns view after
  pub past : (index : ℕ) → index < batch.size → KnowsPast batch after index
  pub placed : 0 < batch.partitions → after.placed ≡ true

abbrev pub UnplacedMeans : Batch → Knowledge → Knowledge → Type 0
UnplacedMeans batch view after = (last : ℕ) × (partition : ℕ) × (last + 1 ≡ batch.size) × MeetsUnplaced batch last partition view after

-- memory ran out, which it doesn't where the place has no revocation and all its references were known done; what was given back had to
-- wait or may revoke
abbrev pub LacksMemory : Batch → ℕ → Knowledge → Knowledge → Type 0
LacksMemory batch index view after = Extends (MayLackMemory batch view) view after × (after.sightings ≡ view.sightings)
    × (KnowsReferences batch view index → IsRevocation batch index)

-- the outcome of a place that was asked for. It is known done, and none was given back; or another was held, and what was given back had to
-- wait; or a partition hasn't placed it; or memory ran out
abbrev pub TriedMeans : Batch → ℕ → Knowledge → Result Tried AllocError → Knowledge → Type 0
TriedMeans batch index view (Ok (NotPlaced partition)) after = MeetsUnplaced batch index partition view after
TriedMeans batch index view (Ok Done) after = Extends NoPlace view after × (after.sightings ≡ view.sightings) × In index after.known
TriedMeans batch index view (Ok (Busy other)) after = Extends (HasToWait batch view) view after × MeetsHeld batch index other view after
TriedMeans batch index view (Err _) after = LacksMemory batch index view after

-- it claimed the place, and holds no other; every partition has placed it, and nothing said before that it is done
pub record TakesPlaced (batch : Batch) (index : ℕ) (view after : Knowledge) : Type 0 where
  pub goes : Extends NoPlace view after
  pub sightings : after.sightings ≡ view.sightings
  pub holds : HoldsJust after (index ∷ [])
  pub past : KnowsPast batch after index
  pub untold : ¬ (IsKnownDone batch view index)

-- it holds no place, and the outcome is this: that the place is done, if what the pass knew says so
pub record StopsWith (batch : Batch) (index : ℕ) (view : Knowledge) (answer : Tried) (after : Knowledge) : Type 0 where
  pub tells : TriedMeans batch index view (Ok answer) after
  pub idle : HoldsNone after
  pub told : IsKnownDone batch view index → answer ≡ Done

-- the outcome of filling a place: it is finished; or memory ran out, which only a revocation's may be, and nothing was stored
abbrev pub FillMeans : {A E : Type 0} → Batch → ℕ → Knowledge → Result A E → Knowledge → Type 0
FillMeans batch index view (Ok _) after = Finishes index view after
FillMeans batch index view (Err _) after = OnlyLearns view after × IsRevocation batch index
