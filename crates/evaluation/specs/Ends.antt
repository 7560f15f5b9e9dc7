-- The records of grants that a place of a batch ends, by their names.
use Rattle.std.specs.Prelude.{◌≡◌, ◌==◌, ℕ, Some, List, slice_get}
use Rattle.std.specs.List.{list_any}
use Rattle.model_base.specs.declared.deed.Grant.{Grant}
use Rattle.model_base.specs.declared.statement.Statement.{Statement}
use Rattle.model_base.specs.Outcomes.{deeds_before, deeds_of, owners}
use Rattle.model_base.specs.Ranks.{rank}
use Rattle.bohm_core_base.specs.Batch.{Batch, batch_slots}
use Rattle.bohm_core_base.specs.Serial.{serial_ends}
use Rattle.evaluation.specs.Answering.{ended_by_deeds}

-- the names are those of the records that the deeds of the statement at the place of the log end, whether it is done or not
abbrev pub AreEndsInLog : List Statement → ℕ → List ℕ → Type 0
AreEndsInLog log place names =
    (statement : Statement) → slice_get log place ≡ Some statement
    → names ≡ ended_by_deeds (owners log) (deeds_before log place) (deeds_of place statement.user statement.form)

-- the name of a slot's record is among the names exactly if the place of the index ends it in the serial run of the batch
abbrev pub NamesEnded : Batch → ℕ → List ℕ → Type 0
NamesEnded batch index names =
    (slot : ℕ) (grant : Grant) → slice_get (batch_slots batch) slot ≡ Some grant
    → list_any (λ name. name == rank grant) names ≡ serial_ends batch index slot
