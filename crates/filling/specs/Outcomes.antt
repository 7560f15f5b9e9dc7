-- What a place of a batch of a log resulted in, and the outcome of asking for it.
use Rattle.std.specs.Prelude.{◌≡◌, ◌⊎◌, ◌+◌, ℕ, true, Option, Some, None, Result, Ok, Err, List, [], ◌∷◌, if◌then◌else◌}
use Rattle.model_base.specs.declared.outcome.Outcome.{Outcome}
use Rattle.model_base.specs.Outcomes.{outcome}
use Rattle.own_words.specs.Words.{ended_in}
use Rattle.bohm_core_base.specs.Batch.{Batch, rank_at, was_done}
use Rattle.bohm_core_base.specs.Serial.{serial_ends, serial_words}
use Rattle.log_batch.specs.Supplied.{LogRange, batch_of}
use Rattle.words.specs.declared.knowledge.Knowledge.{Knowledge}
use Rattle.words.specs.Views.{In, with_sighting}
use Rattle.filling_base.specs.Extending.{OnlyLearns}
use Rattle.filling_base.specs.References.{IsRevocation}
use Rattle.filling_base.specs.Tries.{IsKnownDone}

-- of the records of these slots, the ranks of those that the place ends
abbrev pub ended_ranks_at : Batch → List ℕ → ℕ → List ℕ
ended_ranks_at batch [] index = []
ended_ranks_at batch (slot ∷ slots) index =
    if serial_ends batch index slot then rank_at batch slot ∷ ended_ranks_at batch slots index else ended_ranks_at batch slots index

-- the outcome of an index of the range in its log
abbrev pub outcome_in : LogRange → ℕ → Option Outcome
outcome_in ranged index = outcome ranged.log.statements (ranged.first + index)

-- if the place has a revocation and was done, this is what its outcome says that it ended
abbrev pub IsEndedList : LogRange → ℕ → List ℕ → Type 0
IsEndedList ranged index ended =
    (found : Outcome) → outcome_in ranged index ≡ Some found → was_done (serial_words (batch_of ranged) index) ≡ true
    → IsRevocation (batch_of ranged) index → ended ≡ ended_in found

-- the outcome of it: the outcome of the place in the log, which is known done from then on; or none, where nothing that the pass knew said
-- it done, and at most the place was found held; or memory ran out, for what a revocation ended
abbrev pub OutcomeMeans : {E : Type 0} → LogRange → ℕ → Knowledge → Result (Option Outcome) E → Knowledge → Type 0
OutcomeMeans ranged index view (Ok (Some found)) after =
    OnlyLearns view after × In index after.known × (outcome_in ranged index ≡ Some found)
OutcomeMeans ranged index view (Ok None) after =
    ((after ≡ view) ⊎ (after ≡ with_sighting view index)) × ¬ (IsKnownDone (batch_of ranged) view index)
OutcomeMeans ranged index view (Err _) after = OnlyLearns view after × In index after.known × IsRevocation (batch_of ranged) index
