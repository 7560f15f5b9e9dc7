-- What is shown of a need: how its user held it before a place, or at which revocation it was lost. That a user's privilege
-- rests on a chain of grants, each by who held the option through earlier ones, down to one by the table's owner, is from
-- P. P. Griffiths and B. W. Wade, "An Authorization Mechanism for a Relational Database System", ACM Transactions on Database
-- Systems 1 (1976), with R. Fagin's correction, "On an Authorization Mechanism", in the same journal, 3 (1978).
use Rattle.std.specs.Prelude.{◌≡◌, ◌<◌, ℕ, Bool, false, List, [], ◌∷◌, All, Contains, length, map, IsTrue, if◌then◌else◌}
use Rattle.model_base.specs.declared.deed.Cause.{Cause}
use Rattle.model_base.specs.declared.deed.Cause.TheVariants.{Never, Taken}
use Rattle.model_base.specs.declared.deed.Deed.{Deed}
use Rattle.model_base.specs.declared.deed.Grant.{Grant}
use Rattle.model_base.specs.declared.deed.Need.{Need}
use Rattle.model_base.specs.Outcomes.{cause}
use Rattle.model_base.specs.Paths.{LeadsTo, path}
use Rattle.model_base.specs.Privileges.{deeds_below, holds, kept, owns}
use Rattle.model_base.specs.Ranks.{rank}
use Rattle.explain.specs.declared.line.Shown.{Shown}

-- the ranks of the records of the grants
abbrev pub ranks_of : List Grant → List ℕ
ranks_of grants = map rank grants

-- the grants in force before a place
abbrev pub kept_before : List ℕ → List Deed → ℕ → List Grant
kept_before owners deeds place = kept owners (deeds_below place deeds)

-- whether the user holds what is needed before a place
abbrev pub holds_before : List ℕ → List Deed → ℕ → ℕ → Need → Bool
holds_before owners deeds place user need = holds owners (deeds_below place deeds) user need

-- why the user doesn't hold what is needed before a place
abbrev pub cause_before : List ℕ → List Deed → ℕ → ℕ → Need → Cause
cause_before owners deeds place user need = cause owners (deeds_below place deeds) user need

-- the ranks on the path of the need by the grants in force before a place: the earliest that gives it, and before that the
-- path of its grantor's option
abbrev pub path_before : List ℕ → List Deed → ℕ → ℕ → Need → List ℕ
path_before owners deeds place user need = ranks_of (path owners (kept_before owners deeds place) user need)

-- each of the grants has a lower place than those after it
abbrev pub PlacesRise : List Grant → Type 0
PlacesRise [] = Unit {0}
PlacesRise (grant ∷ grants) = All (λ (later : Grant). grant.place < later.place) grants × PlacesRise grants

-- the grants of one place have one grantor, as those of a statement do
abbrev pub HaveOneGrantor : List Grant → Type 0
HaveOneGrantor grants =
    (grant other : Grant) → Contains grants grant → Contains grants other → grant.place ≡ other.place → grant.grantor ≡ other.grantor

-- the ranks are those of a chain of some of the grants that bears the need: it isn't empty, its places rise, the owner of
-- the table made the first, each gives the grantor of the next the option, and the last gives the user what is needed
pub record IsChain (owners : List ℕ) (grants : List Grant) (user : ℕ) (need : Need) (ranks : List ℕ) : Type 0 where
  pub chain : List Grant
  pub told : ranks_of chain ≡ ranks
  pub some : 0 < length ranks
  pub rising : PlacesRise chain
  pub among : All (Contains grants) chain
  pub leads : LeadsTo owners chain user need

-- what is shown of the need before a place holds: the user owns the table; or the chain is one of grants in force there; or
-- the need isn't held there and never was; or it isn't, this revocation took it last, and the chain was in force before that
abbrev pub IsSound : List ℕ → List Deed → ℕ → ℕ → Need → Shown → Type 0
IsSound owners deeds place user need Shown.Owner = IsTrue (owns owners user need.table)
IsSound owners deeds place user need (Shown.Grants ranks) = IsChain owners (kept_before owners deeds place) user need ranks
IsSound owners deeds place user need Shown.Never =
    (holds_before owners deeds place user need ≡ false) × (cause_before owners deeds place user need ≡ Never)
IsSound owners deeds place user need (Shown.Taken lost ranks) =
    (holds_before owners deeds place user need ≡ false) × (cause_before owners deeds place user need ≡ Taken lost)
    × IsChain owners (kept_before owners deeds lost) user need ranks

-- what there is to show of a need that isn't held, by its cause
abbrev pub shown_lost : List ℕ → List Deed → ℕ → Need → Cause → Shown
shown_lost owners deeds user need Never = Shown.Never
shown_lost owners deeds user need (Taken lost) = Shown.Taken lost (path_before owners deeds lost user need)

-- what there is to show of a need before a place: that the user owns the table, or else the path of the need there, or, where it
-- isn't held, when it was lost last and the path by which it was held until then
abbrev pub shown_of : List ℕ → List Deed → ℕ → ℕ → Need → Shown
shown_of owners deeds place user need =
    if owns owners user need.table then Shown.Owner
    else (if holds_before owners deeds place user need then Shown.Grants (path_before owners deeds place user need)
    else shown_lost owners deeds user need (cause_before owners deeds place user need))

-- the ranks of the records that are shown
abbrev pub ranks_shown : Shown → List ℕ
ranks_shown Shown.Owner = []
ranks_shown (Shown.Grants ranks) = ranks
ranks_shown Shown.Never = []
ranks_shown (Shown.Taken lost ranks) = ranks
