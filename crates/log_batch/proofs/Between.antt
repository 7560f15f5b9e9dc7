-- The grants by a user to a grantee are among those to the grantee.
use Rattle.std.proofs.Common.{◌≡◌, ◌≤◌, ℕ, ◌&&◌, true, false, Option, Some, None, refl, sym, ◌∙◌, ap}
use Rattle.std.specs.Prelude.{◌==◌, Bool, List, slice_get}
use Rattle.std.specs.Option.{option_map_or}
use Rattle.model_base.specs.declared.deed.Grant.{Grant}
use Rattle.model_base.specs.declared.deed.Grantee.{Grantee}
use Rattle.model_base.specs.declared.deed.Kind.{Kind}
use Rattle.grants_base.specs.Force.{gives_by}
use Rattle.grants_base.specs.Index.{IsNext, is_to, passes_at}
use Rattle.bohm_core_base.specs.Batch.{Batch, batch_slots}
use Rattle.log_batch.specs.Earlier.{earlier_grants}
use Rattle.log_batch.proofs.NoneBetween.{NoneBetween}
use Rattle.log_batch.proofs.Reaching.{found-earlier, passes-earlier}

module _ (user : ℕ) (grantee : Grantee) (kind : Kind) (table : ℕ) where
  abbrev to : Grant → Bool
  to = is_to grantee kind table

  abbrev between : Grant → Bool
  between = gives_by user grantee kind table

  -- one that isn't to the grantee is none of them
  between-out : (found : Option Grant) → option_map_or to found false ≡ false → option_map_or between found false ≡ false
  between-out None out = refl
  between-out (Some grant) out = ap (λ b. b && (grant.grantor == user)) out

  -- and one that is, is one of them if the user made it
  between-by : (found : Option Grant) (grant : Grant) → found ≡ Some grant → option_map_or to found false ≡ true
      → option_map_or between found false ≡ (grant.grantor == user)
  between-by found grant at is =
      let here : to grant ≡ true = ap (λ it. option_map_or to it false) (sym at) ∙ is in
      ap (λ it. option_map_or between it false) at ∙ ap (λ b. b && (grant.grantor == user)) here

  module _ (b : Batch) (from slot : ℕ) (next : IsNext to (earlier_grants b) from (Some slot)) where
    -- so the first of those to the grantee comes before the first of them
    pub between-none : NoneBetween (passes_at between (earlier_grants b)) from slot
    between-none k low less = between-out (slice_get (earlier_grants b) k) (next.2 k low less)

    pub between-here : (grant : Grant) → slice_get (batch_slots b) slot ≡ Some grant → passes_at between (earlier_grants b) slot ≡ (grant.grantor == user)
    between-here grant at =
        let less = found-earlier b to slot next.1 in
        passes-earlier b between slot less ∙ between-by (slice_get (batch_slots b) slot) grant at (sym (passes-earlier b to slot less) ∙ next.1)

  -- where there are no more to the grantee, there are no more of them
  pub between-no-more : (grants : List Grant) (from : ℕ) → IsNext to grants from None → (k : ℕ) → from ≤ k → passes_at between grants k ≡ false
  between-no-more grants from none k low = between-out (slice_get grants k) (none k low)
