-- What a test answers is a refusal.
use Rattle.std.proofs.Common.{◌≡◌, ◌≢◌, Option, Some, refl}
use Rattle.sequencer.specs.Refusal.{IsRefusal}
use Rattle.sequencer.specs.declared.refused.Refused.{Refused}
use Rattle.sequencer.specs.declared.refused.Refused.TheVariants.{NoMemory}

pub refusal_of_test : (refused : Refused) (found : Option Refused) → (found ≡ Some refused) × (refused ≢ NoMemory) → IsRefusal refused found
refusal_of_test NoMemory found h = absurd (h.1 refl)
refusal_of_test refused found h = h.0
