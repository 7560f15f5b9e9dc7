-- The grants of slots are in the order of their ranks.
use Rattle.std.proofs.Common.{◌≡◌, ◌<◌, ℕ, zero, suc, false, Some, List, [], ◌∷◌, arith}
use Rattle.std.specs.Prelude.{All, slice_get}
use Rattle.std.proofs.lemmas.List.Elements.{All-head, All-tail}
use Rattle.model_base.specs.declared.deed.Grant.{Grant}
use Rattle.model_base.specs.Ranks.{rank}
use Rattle.model_base.specs.Laws.{IsRising}
use Rattle.model_base.proofs.Recorded.{rising-grants}
use Rattle.bohm_core_base.specs.Batch.{Batch, IsSoundBatch, batch_deeds, batch_slots}
use Rattle.bohm_core_base.proofs.Slots.{slots-rise}

-- what holds of all holds of one that is there
all-there : (P : Grant → Type 0) (grants : List Grant) (k : ℕ) (grant : Grant) → All P grants → slice_get grants k ≡ Some grant → P grant
all-there P [] k grant all at = absurd (cc)
all-there P (first ∷ grants) zero grant all at =
    let same : first ≡ grant = cc in
    rw (← same) (All-head P first grants all)
all-there P (first ∷ grants) (suc k) grant all at = all-there P grants k grant (All-tail P first grants all) at

in-order : (grants : List Grant) (k j : ℕ) (grant later : Grant) → IsRising grants → k < j
    → slice_get grants k ≡ Some grant → slice_get grants j ≡ Some later → rank grant < rank later
in-order [] k j grant later rise less at behind = absurd (cc)
in-order (first ∷ grants) zero zero grant later rise less at behind = absurd (omega arith)
in-order (first ∷ grants) zero (suc j) grant later rise less at behind =
    let same : first ≡ grant = cc in
    rw (← same) (all-there (λ (g : Grant). rank first < rank g) grants j later rise.0 behind)
in-order (first ∷ grants) (suc k) zero grant later rise less at behind = absurd (omega arith)
in-order (first ∷ grants) (suc k) (suc j) grant later rise less at behind = in-order grants k j grant later rise.1 (omega arith) at behind

pub slots-order : (b : Batch) → IsSoundBatch b → (k j : ℕ) (grant later : Grant) → k < j
    → slice_get (batch_slots b) k ≡ Some grant → slice_get (batch_slots b) j ≡ Some later → rank grant < rank later
unfolding batch_slots
slots-order b sound k j grant later less at behind =
    in-order (batch_slots b) k j grant later
    (slots-rise (batch_deeds b (λ _. false)) sound.placed (rising-grants b.owners b.before sound.proper) b.size) less at behind
