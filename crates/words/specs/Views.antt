-- What a pass knows, how its view goes on with each step, and how views are cut and joined. A pass is a thread's right to step
-- on the words; that it carries what it did and what it found is this project's own, after the way in which a view of shared
-- state is split and joined in separation logics for concurrency (D. Dinsdale-Young, M. Dodds, P. Gardner, M. J. Parkinson and
-- V. Vafeiadis, "Concurrent Abstract Predicates", ECOOP 2010).
use Rattle.std.specs.Prelude.{◌≡◌, ◌⊎◌, ◌==◌, ◌||◌, ℕ, suc, ◌<◌, Bool, true, false, Option, Some, None, List, [], ◌∷◌, ◌++◌, length, if◌then◌else◌}
use Rattle.bohm_core_base.specs.declared.event.Event.{Event}
use Rattle.bohm_core_base.specs.declared.event.Event.TheVariants.{Place, Claim, Fill, End, Finish, GiveBack}
use Rattle.bohm_core_base.specs.Batch.{Batch, place_has_deed_on, is_listed, reference_words}
use Rattle.words.specs.declared.knowledge.Knowledge.{Knowledge}

-- x is among these
abbrev pub In : {A : Type 0} → A → List A → Type 0
In x [] = ⊥
In x (y ∷ ys) = (x ≡ y) ⊎ In x ys

-- the first pass of a batch, of which all is placed or nothing yet
abbrev pub first_view : Bool → Knowledge
first_view placed = record {
  events = [];
  kept = [];
  known = [];
  sightings = [];
  fronts = [];
  front_sightings = [];
  placed = placed;
  sole = true;
  cut = [];
  placer = false;
  partition = 0;
  placings = [];
  stored = [];
  spent = false;
}

-- what a pass that was taken in leaves
abbrev pub spent_view : Knowledge
spent_view = record {
  events = [];
  kept = [];
  known = [];
  sightings = [];
  fronts = [];
  front_sightings = [];
  placed = false;
  sole = false;
  cut = [];
  placer = false;
  partition = 0;
  placings = [];
  stored = [];
  spent = true;
}

-- of a split, the first part goes on, and the second begins without events and knows the same
abbrev pub split_left : Knowledge → Knowledge
split_left view = record view { sole = false }

abbrev pub split_right : Knowledge → Knowledge
split_right view = record {
  events = [];
  kept = [];
  known = view.known;
  sightings = [];
  fronts = view.fronts;
  front_sightings = [];
  placed = view.placed;
  sole = false;
  cut = [];
  placer = false;
  partition = 0;
  placings = [];
  stored = [];
  spent = false;
}

-- the first goes on, knows what either knew, and keeps the lists of the other, which has this number
abbrev pub joined : Knowledge → ℕ → Knowledge → Knowledge
joined view number other = record {
  events = view.events;
  kept = view.kept ++ (number, other.events) ∷ other.kept;
  known = view.known ++ other.known;
  sightings = view.sightings;
  fronts = view.fronts ++ other.fronts;
  front_sightings = view.front_sightings;
  placed = view.placed || other.placed;
  sole = false;
  cut = [];
  placer = false;
  partition = 0;
  placings = [];
  stored = [];
  spent = false;
}

-- the placer of a partition was cut from the pass
abbrev pub with_cut : Knowledge → ℕ → Knowledge
with_cut view partition = record view { cut = view.cut ++ partition ∷ [] }

-- a placer, which begins without events or references
abbrev pub placer_view : ℕ → Knowledge
placer_view partition = record {
  events = [];
  kept = [];
  known = [];
  sightings = [];
  fronts = [];
  front_sightings = [];
  placed = false;
  sole = false;
  cut = [];
  placer = true;
  partition = partition;
  placings = [];
  stored = [];
  spent = false;
}

-- a placer stored one more reference
abbrev pub with_stored : Knowledge → ℕ → Knowledge
with_stored view number = record view { stored = view.stored ++ number ∷ [] }

-- a placer placed a place
abbrev pub with_placing : Knowledge → Knowledge
with_placing view = record view { placings = view.placings ++ Place view.partition ∷ []; stored = [] }

-- how many places a placer has placed, which is the index of the one that it places next
abbrev pub front_in : Knowledge → ℕ
front_in view = length view.placings

-- one more event of its own
abbrev pub with_event : Knowledge → Event → Knowledge
with_event view event = record view { events = view.events ++ event ∷ [] }

-- it knows a place done
abbrev pub with_known : Knowledge → ℕ → Knowledge
with_known view index = record view { known = view.known ++ index ∷ [] }

-- it found a place held by another pass
abbrev pub with_sighting : Knowledge → ℕ → Knowledge
with_sighting view index = record view { sightings = view.sightings ++ (index, length view.events) ∷ [] }

-- it found a front, which is at least so from then on
abbrev pub with_front : Knowledge → ℕ → ℕ → Knowledge
with_front view partition found = record view {
  fronts = view.fronts ++ (partition, found) ∷ [];
  front_sightings = view.front_sightings ++ (partition, found, length view.events) ∷ [];
}

-- it knows that all is placed
abbrev pub with_all_placed : Knowledge → Knowledge
with_all_placed view = record view { placed = true }

-- the pass knows that a partition has placed the place
abbrev pub KnowsFront : Knowledge → ℕ → ℕ → Type 0
KnowsFront view partition index =
    (view.placed ≡ true) ⊎ ((count : ℕ) × In (partition, count) view.fronts × (index < count))

-- and that every partition has
abbrev pub KnowsPast : Batch → Knowledge → ℕ → Type 0
KnowsPast batch view index = (partition : ℕ) → partition < batch.partitions → KnowsFront view partition index

-- who has gone on from the first view to the second knows no fewer fronts
abbrev pub KeepsFronts : Knowledge → Knowledge → Type 0
KeepsFronts view after =
    (view.placed ≡ true → after.placed ≡ true)
    × ((partition count : ℕ) → In (partition, count) view.fronts → In (partition, count) after.fronts)

-- whether the event is about the place; a placer's is about none
abbrev pub is_event_at : ℕ → Event → Bool
is_event_at index (Place partition) = false
is_event_at index (Claim actor other) = other == index
is_event_at index (Fill actor other) = other == index
is_event_at index (End actor other slot) = other == index
is_event_at index (Finish actor other) = other == index
is_event_at index (GiveBack actor other) = other == index

-- what is stored of a place that a pass holds: how many own words, and the slots whose ends are set
abbrev pub Stored : Type 0
Stored = Option (ℕ × List ℕ)

-- one more own word, and one more end
abbrev pub one_more : Stored → Stored
one_more None = None
one_more (Some stored) = Some (suc stored.0, stored.1)

abbrev pub one_end : ℕ → Stored → Stored
one_end slot None = None
one_end slot (Some stored) = Some (stored.0, stored.1 ++ slot ∷ [])

-- what is stored after an event about the place: a claim begins with nothing, and who finishes or gives back holds it no more
abbrev pub turn : Stored → Event → Stored
turn stored (Place partition) = stored
turn stored (Claim actor index) = Some (0, [])
turn stored (Fill actor index) = one_more stored
turn stored (End actor index slot) = one_end slot stored
turn stored (Finish actor index) = None
turn stored (GiveBack actor index) = None

-- and after a list of events, of which those about the place count
abbrev pub track : ℕ → Stored → List Event → Stored
track index stored [] = stored
track index stored (event ∷ events) = track index (if is_event_at index event then turn stored event else stored) events

-- by its own events the pass holds the place, and has stored this many of its own words and the ends of these slots
abbrev pub Holds : Knowledge → ℕ → ℕ → List ℕ → Type 0
Holds view index count ended = track index None view.events ≡ Some (count, ended)

-- the pass holds no place
abbrev pub HoldsNone : Knowledge → Type 0
HoldsNone view = (index count : ℕ) (ended : List ℕ) → ¬ (Holds view index count ended)

-- the pass knows each place done that this one is referred to
abbrev pub KnowsReferences : Batch → Knowledge → ℕ → Type 0
KnowsReferences batch view index = (other : ℕ) → In (suc other) (reference_words batch index) → In other view.known

-- the place has a deed on a table of a later place, of which the pass knows done all that it is referred to: so all deeds on
-- that table before the later place are done
abbrev pub IsSettled : Batch → Knowledge → ℕ → Type 0
IsSettled batch view index =
    (later : ℕ) × (table : ℕ) × (index < later) × (later < batch.size) × KnowsReferences batch view later
    × (is_listed (batch.tables later) table ≡ true) × (place_has_deed_on batch index table ≡ true)
