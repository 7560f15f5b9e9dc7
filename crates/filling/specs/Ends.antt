-- The ends that are known of the records of slots. That a grant's record keeps the place at which it ended is R. Fagin's, "On an
-- Authorization Mechanism", ACM TODS 3 (1978); that a batch says only of those that it ended is this project's own.
use Rattle.std.specs.Prelude.{◌≡◌, ◌==◌, ◌<◌, ◌+◌, ℕ, zero, suc, true, Option, Some, List, filter, length, map, slice_get, if◌then◌else◌}
use Rattle.std.specs.BTreeMap.{get}
use Rattle.std.specs.List.{list_any}
use Rattle.std.specs.Ordering.{nat_cmp}
use Rattle.std.specs.declared.vec.Vec.{Vec}
use Rattle.std.specs.declared.alloc.Global.{Global}
use Rattle.model_base.specs.declared.deed.Grant.{Grant}
use Rattle.model_base.specs.Ranks.{rank}
use Rattle.bohm_core_base.specs.Batch.{Batch, rank_at, batch_slots}
use Rattle.bohm_core_base.specs.Serial.{serial_ends, whole_end}
use Rattle.filling.specs.declared.completion.ends.Ends.{Ends}

-- the lists that these vectors have
abbrev pub ended_lists : List (Vec ℕ Global) → List (List ℕ)
ended_lists lists = map (λ (list : Vec ℕ Global). list.items) lists

-- the end that is known of the record of a slot
abbrev pub noted_end : Ends → ℕ → Option ℕ
noted_end ends slot = get nat_cmp ends.places slot

-- what was known still is
abbrev pub KeepsNoted : Ends → Ends → Type 0
KeepsNoted old new = (slot end : ℕ) → noted_end old slot ≡ Some end → noted_end new slot ≡ Some end

-- one more is known
abbrev pub NotesOneMore : ℕ → ℕ → Ends → Ends → Type 0
NotesOneMore slot end old new = (other : ℕ) → noted_end new other ≡ (if slot == other then Some end else noted_end old other)

-- what a word says of a slot is known: of 0 nothing, and else that the record ended at the place that is one less
abbrev pub NotesWord : ℕ → ℕ → Ends → Ends → Type 0
NotesWord slot zero old new = (other : ℕ) → noted_end new other ≡ noted_end old other
NotesWord slot (suc end) old new = NotesOneMore slot end old new

-- each end that is known is that of the serial run of the whole batch
pub record AreSerialEnds (batch : Batch) (ends : Ends) : Type 0 where
  pub slots : (slot end : ℕ) → noted_end ends slot ≡ Some end → slot < length (batch_slots batch)
  pub whole : (slot end : ℕ) → noted_end ends slot ≡ Some end → whole_end batch slot ≡ Some end

-- all that a place of the batch ends by the serial run are known
abbrev pub NotesEndsOf : Batch → ℕ → Ends → Type 0
NotesEndsOf batch index ends =
    (slot : ℕ) → slot < length (batch_slots batch) → serial_ends batch index slot ≡ true → noted_end ends slot ≡ Some (batch.first + index)

-- the place ends the records of these ranks, of those of the slots
abbrev pub AreEndedBy : Batch → ℕ → List ℕ → Type 0
AreEndedBy batch index ranks =
    (slot : ℕ) (grant : Grant) → slice_get (batch_slots batch) slot ≡ Some grant
    → list_any (λ ended. ended == rank grant) ranks ≡ serial_ends batch index slot

-- of slots with their ends, the ranks of the records that ended at a place, in order
abbrev pub ended_among : Batch → ℕ → List (ℕ × ℕ) → List ℕ
ended_among batch place ends = map (λ (one : ℕ × ℕ). rank_at batch one.0) (filter (λ (one : ℕ × ℕ). one.1 == place) ends)
