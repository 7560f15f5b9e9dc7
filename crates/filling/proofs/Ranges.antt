-- One place more.
use Rattle.std.proofs.Common.{◌≡◌, ◌+◌, ◌++◌, ℕ, zero, suc, List, [], ◌∷◌, Some, map, refl, ap, sym, ◌∙◌, arith}
use Rattle.std.specs.List.{flat_map, range_with_len}
use Rattle.std.proofs.lemmas.Grind.{flat_map-append}
use Rattle.std.proofs.lemmas.List.{append-nil, map-append}
use Rattle.std.proofs.lemmas.List.FromFn.{map-range_with_len_more}
use Rattle.model_base.specs.declared.outcome.Outcome.{Outcome}
use Rattle.model_base.specs.declared.statement.Statement.{Statement}
use Rattle.model_base.specs.Outcomes.{outcome}
use Rattle.chains.specs.Store.{versions_at}
use Rattle.filling.specs.Finished.{AreOutcomes}

range-suc : (first count : ℕ) → range_with_len first (suc count) ≡ range_with_len first count ++ (first + count) ∷ []
range-suc first zero = let same : first ≡ first + 0 = omega arith in ap (λ (n : ℕ). n ∷ []) same
range-suc first (suc count) =
    let same : first + 1 + count ≡ first + suc count = omega arith in
    ap (λ ns. first ∷ ns) (range-suc (first + 1) count ∙ ap (λ (n : ℕ). range_with_len (first + 1) count ++ n ∷ []) same)

pub range_more : (first count : ℕ) → range_with_len first (count + 1) ≡ range_with_len first count ++ (first + count) ∷ []
range_more first count = let same : count + 1 ≡ suc count = omega arith in ap (range_with_len first) same ∙ range-suc first count

pub outcomes_more : (log : List Statement) (first count : ℕ) (outcomes : List Outcome) (found : Outcome)
    → AreOutcomes log first count outcomes → outcome log (first + count) ≡ Some found → AreOutcomes log first (count + 1) (outcomes ++ found ∷ [])
outcomes_more log first count outcomes found are is =
    map-append (λ (one : Outcome). Some one) outcomes (found ∷ [])
    ∙ ap (λ os. os ++ Some found ∷ []) are
    ∙ ap (λ o. map (outcome log) (range_with_len first count) ++ o ∷ []) (sym is)
    ∙ sym (map-range_with_len_more (outcome log) first count (first + count) refl)

pub versions_more : (log : List Statement) (first count : ℕ)
    → flat_map (versions_at log) (range_with_len first (count + 1)) ≡ flat_map (versions_at log) (range_with_len first count) ++ versions_at log (first + count)
versions_more log first count =
    ap (flat_map (versions_at log)) (range_more first count)
    ∙ flat_map-append (versions_at log) (range_with_len first count) ((first + count) ∷ [])
    ∙ ap (λ vs. flat_map (versions_at log) (range_with_len first count) ++ vs) (append-nil (versions_at log (first + count)))
