-- A revocation is all that its place makes.
use Rattle.std.proofs.Common.{◌≡◌, Some, None, List, [], ◌∷◌, sym, ◌∙◌, ap, inl, inr}
use Rattle.std.specs.Prelude.{All}
use Rattle.std.proofs.lemmas.List.Elements.{All-head}
use Rattle.model_base.specs.declared.deed.Deed.{Deed}
use Rattle.model_base.specs.declared.deed.Deed.TheVariants.{Granting, Revoking}
use Rattle.model_base.specs.declared.deed.Revocation.{Revocation}
use Rattle.model_base.specs.DeedsLeft.{revocation_of}
use Rattle.model_base.specs.Laws.{AreGrantsOrRevocation, IsGranting}

-- the deeds of a place whose first is a revocation are it alone
pub only_revocation : (made : List Deed) (revocation : Revocation) → AreGrantsOrRevocation made → revocation_of made ≡ Some revocation
    → made ≡ Revoking revocation ∷ []
only_revocation [] revocation one is = absurd (cc)
only_revocation (Granting grant ∷ made) revocation one is = absurd (cc)
only_revocation (Revoking first ∷ made) revocation one is =
    elim one [
      | inl grants ↦ absurd (All-head IsGranting (Revoking first) made grants)
      | inr alone ↦
          let both : Some revocation ≡ Some alone.0 = sym is ∙ ap revocation_of alone.1 in
          let same : alone.0 ≡ revocation = cc in
          alone.1 ∙ ap (λ (r : Revocation). Revoking r ∷ []) same
    ]

-- and if the first is none, they aren't one
pub no_revocation : (made : List Deed) (revocation : Revocation) → revocation_of made ≡ None → made ≡ Revoking revocation ∷ [] → ⊥
no_revocation made revocation none is = let both : None ≡ Some revocation = sym none ∙ ap revocation_of is in absurd (cc)

-- but grants, if there are any
pub all_grants : (made : List Deed) → AreGrantsOrRevocation made → revocation_of made ≡ None → All IsGranting made
all_grants made one none =
    elim one [
      | inl grants ↦ grants
      | inr alone ↦ absurd (no_revocation made alone.0 none alone.1)
    ]
