-- How a pass goes on through several steps.
use Rattle.std.specs.Prelude.{◌≡◌, ◌≢◌, ◌↔◌, ℕ, ◌≤◌, List, [], ◌∷◌, ◌++◌}
use Rattle.bohm_core_base.specs.declared.event.Event.{Event}
use Rattle.bohm_core_base.specs.declared.event.Event.TheVariants.{GiveBack}
use Rattle.words.specs.declared.knowledge.Knowledge.{Knowledge}
use Rattle.words.specs.Passes.{PassState}
use Rattle.words.specs.Views.{Holds, In, KeepsFronts}
use Rattle.filling_base.specs.Counting.{finished_places}

-- the same pass, through which no fewer bodies were run
pub record IsSamePass (pass after : PassState) : Type 0 where
  pub table : after.table ≡ pass.table
  pub number : after.number ≡ pass.number
  pub bodies : pass.bodies ≤ after.bodies

-- what it knew it knows, of fronts too, and its own events go on; of these, only such places are given back
pub record Extends (MayGiveBack : ℕ → Type 0) (view after : Knowledge) : Type 0 where
  pub knows : (index : ℕ) → In index view.known → In index after.known
  pub events : List Event
  pub adds : after.events ≡ view.events ++ events
  pub gives_back : (actor index : ℕ) → In (GiveBack actor index) events → MayGiveBack index
  pub kept : after.kept ≡ view.kept
  pub sole : after.sole ≡ view.sole
  pub fronts : KeepsFronts view after

-- no place at all
abbrev pub NoPlace : ℕ → Type 0
NoPlace index = ⊥

-- the pass holds these places, with nothing stored, and no other
pub record HoldsJust (view : Knowledge) (held : List ℕ) : Type 0 where
  pub these : (index : ℕ) → In index held → Holds view index 0 []
  pub only : (index count : ℕ) (ended : List ℕ) → Holds view index count ended → In index held

-- of all places but one it holds the same, with the same stored
abbrev pub HoldsOthers : ℕ → Knowledge → Knowledge → Type 0
HoldsOthers index view after =
    (other count : ℕ) (ended : List ℕ) → other ≢ index → Holds view other count ended ↔ Holds after other count ended

-- it may only have learnt that places are done
pub record OnlyLearns (view after : Knowledge) : Type 0 where
  pub goes : Extends NoPlace view after
  pub events : after.events ≡ view.events
  pub sightings : after.sightings ≡ view.sightings

-- it finished the place and no other, knows it done, and doesn't hold it any more; of the others it holds the same
pub record Finishes (index : ℕ) (view after : Knowledge) : Type 0 where
  pub goes : Extends NoPlace view after
  pub finishes : finished_places after.events ≡ finished_places view.events ++ index ∷ []
  pub sightings : after.sightings ≡ view.sightings
  pub known : In index after.known
  pub others : HoldsOthers index view after
  pub free : (count : ℕ) (ended : List ℕ) → ¬ (Holds after index count ended)
