-- Whether a place has a revocation, by its statement's.
use Rattle.std.proofs.Common.{◌≡◌, ◌+◌, ℕ, true, Option, Some, None, refl, sym, ap, ◌∙◌}
use Rattle.std.specs.Prelude.{is_some, slice_get}
use Rattle.model_base.specs.declared.deed.Revocation.{Revocation}
use Rattle.model_base.specs.declared.statement.Statement.{Statement}
use Rattle.model_base.specs.DeedsLeft.{revocation_of}
use Rattle.model_base.specs.Outcomes.{deeds_of}
use Rattle.model_base.proofs.Made.{deeds_of-one}
use Rattle.evaluation.proofs.OnlyRevocation.{only_revocation}
use Rattle.log_batch.specs.Supplied.{LogRange, batch_of}
use Rattle.filling_base.specs.References.{IsRevocation}

module _ (ranged : LogRange) (index : ℕ) (statement : Statement) (at : slice_get ranged.log.statements (ranged.first + index) ≡ Some statement) where
  abbrev made : Option Revocation
  made = revocation_of (deeds_of (ranged.first + index) statement.user statement.form)

  deeds-are : (batch_of ranged).deeds index ≡ deeds_of (ranged.first + index) statement.user statement.form
  deeds-are = rw at refl

  pub revokes_if : is_some made ≡ true → IsRevocation (batch_of ranged) index
  revokes_if = by_made made refl
    where
      by_made : (found : Option Revocation) → made ≡ found → is_some found ≡ true → IsRevocation (batch_of ranged) index
      by_made None is there = absurd (cc)
      by_made (Some revocation) is there =
          let place = ranged.first + index in
          (revocation, deeds-are ∙ only_revocation (deeds_of place statement.user statement.form) revocation (deeds_of-one place statement.user statement.form) is)

  pub revokes_only : IsRevocation (batch_of ranged) index → is_some made ≡ true
  revokes_only revokes = ap (λ found. is_some found) (ap revocation_of (sym deeds-are ∙ revokes.1))
