-- Words of the laws of src/laws.rt.
use Rattle.std.specs.Prelude.{◌≡◌, ◌⊎◌, ℕ, ◌<◌, Some, true, false, All, List, [], ◌∷◌, ◌++◌, slice_get, take}
use Rattle.model_base.specs.declared.deed.Grant.{Grant}
use Rattle.model_base.specs.declared.deed.Need.{Need}
use Rattle.model_base.specs.declared.deed.Deed.{Deed}
use Rattle.model_base.specs.declared.deed.Deed.TheVariants.{Granting, Revoking}
use Rattle.model_base.specs.declared.deed.Revocation.{Revocation}
use Rattle.model_base.specs.Privileges.{holds, place_of}
use Rattle.model_base.specs.Ranks.{rank}

-- the first list is the second with some of its grants left out
pub data IsPart : List Grant → List Grant → Type 0 where
  none : IsPart [] []
  left_out : {part grants : List Grant} {grant : Grant} → IsPart part grants → IsPart part (grant ∷ grants)
  stays : {part grants : List Grant} {grant : Grant} → IsPart part grants → IsPart (grant ∷ part) (grant ∷ grants)

-- the ranks of the grants rise
abbrev pub IsRising : List Grant → Type 0
IsRising [] = Unit {0}
IsRising (grant ∷ grants) = All (λ later. rank grant < rank later) grants × IsRising grants

-- a deed of this place took the need away last: the deeds before it hold the need, and no longer beginning of the deeds does
pub record IsLastLoss (owners : List ℕ) (deeds : List Deed) (user : ℕ) (need : Need) (place : ℕ) : Type 0 where
  pub index : ℕ
  pub deed : Deed
  pub there : slice_get deeds index ≡ Some deed
  pub here : place_of deed ≡ place
  pub before : holds owners (take index deeds) user need ≡ true
  pub after : (n : ℕ) → index < n → holds owners (take n deeds) user need ≡ false

-- the deed is a grant
abbrev pub IsGranting : Deed → Type 0
IsGranting (Granting grant) = Unit {0}
IsGranting (Revoking revocation) = ⊥

-- the deeds are grants, if there are any, or one revocation
abbrev pub AreGrantsOrRevocation : List Deed → Type 0
AreGrantsOrRevocation deeds = All IsGranting deeds ⊎ ((revocation : Revocation) × (deeds ≡ Revoking revocation ∷ []))

-- the deeds after the place are those before it, and then those that it makes, which have the place: grants, or one revocation
abbrev pub GrowsAt : ℕ → List Deed → List Deed → Type 0
GrowsAt place before after =
    (made : List Deed) × (after ≡ before ++ made) × All (λ deed. place_of deed ≡ place) made × AreGrantsOrRevocation made
