-- The outcomes of some places, one by one.
use Rattle.std.proofs.Common.{◌≡◌, ◌<◌, ◌+◌, ℕ, List, Option, Some, get_or, length, refl, ap, sym, ◌∙◌, arith}
use Rattle.std.proofs.lemmas.List.{get_or-map, length-map}
use Rattle.std.proofs.lemmas.List.FromFn.{get_or-map-range_with_len, length-map-range_with_len}
use Rattle.model_base.specs.declared.outcome.Outcome.{Outcome}
use Rattle.model_base.specs.declared.statement.Statement.{Statement}
use Rattle.model_base.specs.Outcomes.{outcome}
use Rattle.filling.specs.Finished.{AreOutcomes}

module _ (log : List Statement) (first count : ℕ) (outcomes : List Outcome) (are : AreOutcomes log first count outcomes) where
  pub came_count : length outcomes ≡ count
  came_count =
      sym (length-map outcomes (λ (found : Outcome). Some found)) ∙ ap length are ∙ length-map-range_with_len (outcome log) first count

  pub came_at : (index : ℕ) (found : Outcome) → index < count → found ≡ get_or outcomes index found → outcome log (first + index) ≡ Some found
  came_at index found less is =
      let low : index < length outcomes = omega (arith, less, came_count) in
      sym (get_or-map-range_with_len (outcome log) first count index (first + index) (Some found) less refl)
      ∙ ap (λ (os : List (Option Outcome)). get_or os index (Some found)) (sym are)
      ∙ get_or-map (λ (one : Outcome). Some one) outcomes index found (Some found) low
      ∙ ap Some (sym is)
