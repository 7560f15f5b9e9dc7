-- The deeds of a statement, drawn down from the front, and the revocation among them.
use Rattle.std.specs.Prelude.{Option, Some, None, List, [], ◌∷◌, ◌++◌, drop, map}
use Rattle.model_base.specs.declared.deed.Grant.{Grant}
use Rattle.model_base.specs.declared.deed.Revocation.{Revocation}
use Rattle.model_base.specs.declared.deed.Deed.{Deed}
use Rattle.model_base.specs.declared.deed.Deed.TheVariants.{Granting, Revoking}
use Rattle.model_base.specs.declared.deeds.Grants.{Grants}
use Rattle.model_base.specs.declared.deeds.Left.{Left}
use Rattle.model_base.specs.Outcomes.{grants_at, grants_of_kind, kinds_in, positions}

-- the grants of a kind to the grantees from an index on, and those of the kinds that are left
abbrev pub grants_left : Grants → List Grant
grants_left left =
    drop left.index (grants_of_kind left.place left.grantor left.kind left.table left.option positions left.grantees.now)
    ++ grants_at left.place left.grantor left.table left.option left.grantees.now (kinds_in left.kinds)

-- the grants that are left, or the revocation
abbrev pub deeds_left : Left → List Deed
deeds_left Left.Nothing = []
deeds_left (Left.Grants grants) = map Granting (grants_left grants)
deeds_left (Left.Revocation revocation) = Revoking revocation ∷ []

-- the revocation that is the first of the deeds, if one is
abbrev pub revocation_of : List Deed → Option Revocation
revocation_of [] = None
revocation_of (Granting grant ∷ deeds) = None
revocation_of (Revoking revocation ∷ deeds) = Some revocation
