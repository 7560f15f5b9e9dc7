-- What each step means for its pass.
use Rattle.std.specs.Prelude.{◌≡◌, ◌⊎◌, ◌<◌, ◌≤◌, ◌+◌, ℕ, false, true, Option, None, Some, length, List, []}
use Rattle.model_base.specs.Records.{end_below}
use Rattle.bohm_core_base.specs.declared.event.Event.TheVariants.{Claim}
use Rattle.bohm_core_base.specs.Batch.{Batch, is_listed, batch_slots, reference_words, table_at, words_length}
use Rattle.bohm_core_base.specs.Serial.{serial_ends, whole_end}
use Rattle.words.specs.declared.knowledge.Knowledge.{Knowledge}
use Rattle.words.specs.declared.claims.Claimed.{Claimed}
use Rattle.words.specs.declared.claims.Claimed.TheVariants.{Won, Held, Done}
use Rattle.words.specs.declared.claims.Seen.{Seen}
use Rattle.words.specs.declared.claims.Seen.TheVariants as seen
use Rattle.words.specs.Layout.{partition_at}
use Rattle.words.specs.Views.{Holds, In, KnowsFront, KnowsReferences, front_in, with_event, with_known, with_sighting}

-- the pass holds the place itself, or found it held by another, which a sole pass never does
abbrev pub FoundHeld : ℕ → Knowledge → Knowledge → Type 0
FoundHeld index view after =
    ((after ≡ view) × ((count : ℕ) × (ended : List ℕ) × Holds view index count ended))
    ⊎ ((after ≡ with_sighting view index) × (view.sole ≡ false))

-- what a claim means for the pass with a number: a won one is its event, and the place is held with nothing stored
abbrev pub ClaimMeans : ℕ → ℕ → Knowledge → Claimed → Knowledge → Type 0
ClaimMeans number index view Won after = (after ≡ with_event view (Claim number index)) × Holds after index 0 []
ClaimMeans number index view Held after = FoundHeld index view after
ClaimMeans number index view Done after = after ≡ with_known view index

-- what a look says
abbrev pub LookMeans : ℕ → Knowledge → Seen → Knowledge → Type 0
LookMeans index view seen.Free after = after ≡ view
LookMeans index view seen.Held after = FoundHeld index view after
LookMeans index view seen.Done after = after ≡ with_known view index

-- what a load of a slot's end says: no end, or that by the serial run of the whole batch
pub record EndMeans (batch : Batch) (slot : ℕ) (view : Knowledge) (end : Option ℕ) : Type 0 where
  pub none_or : (end ≡ None) ⊎ ((place : ℕ) × (end ≡ Some place) × (whole_end batch slot ≡ Some place))
  -- the latter where the pass knows the ending place done
  pub ended : (index : ℕ) → whole_end batch slot ≡ Some (batch.first + index) → In index view.known → end ≡ Some (batch.first + index)
  -- for a place of which the pass knows done all that it is referred to, and on whose tables the slot's grant is, the end
  -- below the place is that of the serial run
  pub below : (index : ℕ) → index < batch.size → KnowsReferences batch view index
      → is_listed (batch.tables index) (table_at batch slot) ≡ true
      → end_below (batch.first + index) end ≡ end_below (batch.first + index) (whole_end batch slot)

-- the pass holds the place and has stored all that the place has to store: so it may finish it
abbrev pub HoldsWhole : Batch → Knowledge → ℕ → Type 0
HoldsWhole batch view index =
    (ended : List ℕ) × Holds view index (words_length batch index) ended
    × ((slot : ℕ) → slot < length (batch_slots batch) → serial_ends batch index slot ≡ true → In slot ended)

-- what a load of a front says: this many places are placed, of those that the batch has, and each of which the pass knows it
pub record FrontMeans (batch : Batch) (partition : ℕ) (view : Knowledge) (found : ℕ) : Type 0 where
  pub most : found ≤ batch.size
  pub known : (index : ℕ) → index < batch.size → KnowsFront view partition index → index < found
  -- and each that it knows done
  pub done : (index : ℕ) → In index view.known → index < found

-- the placer has stored all references of its partition of the place that it places next
abbrev pub StoredAll : Batch → Knowledge → Type 0
StoredAll batch view =
    (number : ℕ) → number < length (reference_words batch (front_in view))
    → partition_at batch (front_in view) number ≡ view.partition → In number view.stored
