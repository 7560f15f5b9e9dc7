-- What a call holds, and what a step of it does.
use Rattle.std.specs.Prelude.{◌≡◌, ◌⊎◌, ℕ, zero, suc, ◌+◌, ◌*◌, ◌-◌, ◌^◌, ◌<◌, ◌≤◌, List, [], ◌∷◌, ◌++◌, length, false, Result, Ok, Err}
use Rattle.std.specs.declared.alloc.AllocError.{AllocError}
use Rattle.bohm_core_base.specs.Batch.{Batch, reference_words}
use Rattle.words.specs.declared.knowledge.Knowledge.{Knowledge}
use Rattle.words.specs.Views.{In, KnowsPast}
use Rattle.filling_base.specs.declared.walk.Frame.{Frame}
use Rattle.filling_base.specs.declared.walk.Walk.{Walk}
use Rattle.filling_base.specs.declared.walk.Step.{Step}
use Rattle.filling_base.specs.declared.walk.Step.TheVariants.{Went, Busy}
use Rattle.filling_base.specs.Extending.{Extends, HoldsJust, NoPlace}
use Rattle.filling_base.specs.References.{reference}
use Rattle.filling_base.specs.Tries.{HasToWait, IsKnownDone, MayLackMemory}

-- the places that wait
abbrev pub waiting : List Frame → List ℕ
waiting [] = []
waiting (frame ∷ frames) = frame.index ∷ waiting frames

-- the places that the first this many references of a place name are among these
abbrev pub KnownTo : Batch → List ℕ → ℕ → ℕ → Type 0
KnownTo batch known index count =
    (number other : ℕ) → number < count → reference batch index number ≡ suc other → In other known

-- the place of the frame waits for another, which one of its references names, and those before that are known done
pub record WaitsFor (batch : Batch) (known : List ℕ) (frame : Frame) (other : ℕ) : Type 0 where
  pub number : ℕ
  pub next : frame.next ≡ suc number
  pub short : number < length (reference_words batch frame.index)
  pub ready : KnownTo batch known frame.index number
  pub names : reference batch frame.index number ≡ suc other

-- the place that waits at the bottom, or else the current one
abbrev pub bottom : List Frame → ℕ → ℕ
bottom [] at = at
bottom (frame ∷ frames) at = frame.index

-- each place waits for the next one, the last for the current one
abbrev pub IsPath : Batch → List ℕ → List Frame → ℕ → Type 0
IsPath batch known [] at = Unit {0}
IsPath batch known (frame ∷ frames) at = WaitsFor batch known frame (bottom frames at) × IsPath batch known frames at

-- what a pass knows, the current place, how many of its references are known done, and the places that wait
pub record Spot : Type 0 where
  pub view : Knowledge
  pub at : ℕ
  pub next : ℕ
  pub frames : List Frame

abbrev pub spot : Walk → Spot
spot walk = record { view = walk.holding.view; at = walk.at; next = walk.next; frames = walk.stack.items }

-- the place that the call was asked for
abbrev pub asked_place : Spot → ℕ
asked_place spot = bottom spot.frames spot.at

-- the places that the call holds
abbrev pub held : Spot → List ℕ
held spot = spot.at ∷ waiting spot.frames

pub record IsWalk (batch : Batch) (spot : Spot) : Type 0 where
  pub path : IsPath batch spot.view.known spot.frames spot.at
  pub ready : KnownTo batch spot.view.known spot.at spot.next
  pub short : spot.next ≤ length (reference_words batch spot.at)
  pub holds : HoldsJust spot.view (held spot)
  -- every partition has placed the place asked for, and so the others, which are before it
  pub past : KnowsPast batch spot.view (asked_place spot)

-- more than two for each place, and more than the references of each
abbrev pub widest_below : Batch → ℕ → ℕ
widest_below batch zero = 2
widest_below batch (suc index) = length (reference_words batch index) + widest_below batch index

-- no fewer than the steps for a place, with this many of its references known done
unfoldable pub cost : Batch → ℕ → ℕ → ℕ
cost batch index count = (suc (length (reference_words batch index)) - count) * widest_below batch batch.size ^ index

abbrev pub costs : Batch → List Frame → ℕ
costs batch [] = 0
costs batch (frame ∷ frames) = cost batch frame.index frame.next + costs batch frames

-- no fewer than the steps that are left
abbrev pub left : Batch → Spot → ℕ
left batch spot = cost batch spot.at spot.next + costs batch spot.frames

-- the walk goes on; a place begins to wait only where one of its references isn't known done
pub record GoesFurther (batch : Batch) (spot next : Spot) : Type 0 where
  pub walks : IsWalk batch next
  pub goes : Extends NoPlace spot.view next.view
  pub sightings : next.view.sightings ≡ spot.view.sightings
  pub for : asked_place next ≡ asked_place spot
  pub less : left batch next < left batch spot
  pub waits : (index : ℕ) → In index (waiting next.frames) → In index (waiting spot.frames) ⊎ HasToWait batch spot.view index

-- the current place and those that wait are the same, and nothing was claimed, given back or stored
pub record Stays (batch : Batch) (spot next : Spot) : Type 0 where
  pub walks : IsWalk batch next
  pub goes : Extends NoPlace spot.view next.view
  pub events : next.view.events ≡ spot.view.events
  pub at : next.at ≡ spot.at
  pub frames : next.frames ≡ spot.frames

-- a place to which the current one is referred was found held by another pass
pub record MetHeld (other : ℕ) (batch : Batch) (spot next : Spot) : Type 0 where
  pub stays : Stays batch spot next
  pub sightings : next.view.sightings ≡ spot.view.sightings ++ (other, length spot.view.events) ∷ []
  pub most : other ≤ asked_place spot
  pub shared : spot.view.sole ≡ false
  pub untold : ¬ (IsKnownDone batch spot.view other)
  pub waits : HasToWait batch spot.view spot.at

-- memory ran out, for the current place to wait or to revoke
pub record LackedMemory (batch : Batch) (spot next : Spot) : Type 0 where
  pub stays : Stays batch spot next
  pub sightings : next.view.sightings ≡ spot.view.sightings
  pub lacks : MayLackMemory batch spot.view spot.at

abbrev pub StepDone : Batch → Spot → Result Step AllocError → Spot → Type 0
StepDone batch spot (Ok Went) next = GoesFurther batch spot next
StepDone batch spot (Ok (Busy other)) next = MetHeld other batch spot next
StepDone batch spot (Err _) next = LackedMemory batch spot next

-- it gave back what it held
pub record Released (held : List ℕ) (view after : Knowledge) : Type 0 where
  pub goes : Extends (λ index. In index held) view after
  pub sightings : after.sightings ≡ view.sightings
