-- The ranks of the records that the deeds of a place end rise.
use Rattle.std.proofs.Common.{◌≡◌, ◌<◌, ◌+◌, ◌++◌, ℕ, zero, suc, List, [], ◌∷◌, subst, arith}
use Rattle.std.specs.Prelude.{All, slice_index}
use Rattle.std.specs.List.Sorted.{IsStrictlyIncreasing}
use Rattle.std.proofs.lemmas.List.Elements.{All-cons, All-head, All-tail}
use Rattle.model_base.specs.declared.deed.Deed.{Deed}
use Rattle.model_base.specs.declared.deed.Deed.TheVariants.{Granting, Revoking}
use Rattle.model_base.specs.declared.deed.Grant.{Grant}
use Rattle.model_base.specs.Ranks.{rank}
use Rattle.model_base.specs.Laws.{IsRising}
use Rattle.model_base.specs.Privileges.{IsProper, is_among, kept, lost}
use Rattle.model_base.proofs.Places.{rising-part}
use Rattle.model_base.proofs.Recorded.{part-kept_grants, rising-grants}
use Rattle.model_base.proofs.Replay.{by_cases}
use Rattle.evaluation.specs.Answering.{ended_by_deeds}

-- each lies above, and each above those before it
lost-above : (p : ℕ) (before after : List Grant) → All (λ (grant : Grant). p < rank grant) before → All (λ q. p < q) (lost before after)
lost-above p [] after all = λ k d within. absurd (omega (arith, within))
lost-above p (grant ∷ before) after all =
    let rest = lost-above p before after (All-tail (λ (one : Grant). p < rank one) grant before all) in
    by_cases (is_among (rank grant) after)
    (λ stays. rw stays rest)
    (λ gone. rw gone (All-cons (λ q. p < q) (rank grant) (lost before after) (All-head (λ (one : Grant). p < rank one) grant before all) rest))

rising-cons : (p : ℕ) (ranks : List ℕ) → All (λ q. p < q) ranks → IsStrictlyIncreasing ranks → IsStrictlyIncreasing (p ∷ ranks)
rising-cons p [] all rise k within = absurd (omega arith)
rising-cons p (q ∷ ranks) all rise zero within = All-head (λ one. p < one) q ranks all
rising-cons p (q ∷ ranks) all rise (suc k) within =
    let next : suc (k + 1) ≡ suc k + 1 = omega arith in
    subst (λ n. slice_index (q ∷ ranks) k < slice_index (p ∷ q ∷ ranks) n) next (rise k (omega arith))

none-rises : IsStrictlyIncreasing []
none-rises k within = absurd (omega arith)

lost-rises : (before after : List Grant) → IsRising before → IsStrictlyIncreasing (lost before after)
lost-rises [] after rise = none-rises
lost-rises (grant ∷ before) after rise =
    let rest = lost-rises before after rise.1 in
    by_cases (is_among (rank grant) after)
    (λ stays. rw stays rest)
    (λ gone. rw gone (rising-cons (rank grant) (lost before after) (lost-above (rank grant) before after rise.0) rest))

pub ended-rises : (owners : List ℕ) (deeds made : List Deed) → IsProper owners deeds → IsStrictlyIncreasing (ended_by_deeds owners deeds made)
ended-rises owners deeds [] proper = none-rises
ended-rises owners deeds (Granting grant ∷ made) proper = none-rises
ended-rises owners deeds (Revoking revocation ∷ made) proper =
    lost-rises (kept owners deeds) (kept owners (deeds ++ Revoking revocation ∷ []))
    (rising-part (part-kept_grants owners deeds) (rising-grants owners deeds proper))
