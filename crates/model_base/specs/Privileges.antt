-- Who holds which privilege after a list of deeds, that is of grants and revocations.
-- From P. P. Griffiths and B. W. Wade, "An Authorization Mechanism for a Relational Database System",
-- ACM Transactions on Database Systems 1 (1976). That each repeated grant is kept by itself, with its own
-- time, is R. Fagin's correction, "On an Authorization Mechanism", in the same journal, 3 (1978).
use Rattle.std.specs.Prelude.{◌==◌, ◌<◌, ◌&&◌, ◌||◌, not, nat_lt, ℕ, Bool, true, false, Option, Some, None, List, [], ◌∷◌, ◌++◌, filter, slice_get, if◌then◌else◌, IsTrue}
use Rattle.std.specs.Prelude.{All}
use Rattle.std.specs.List.{list_any}
use Rattle.std.specs.Option.{option_map_or}
use Rattle.model_base.specs.declared.deed.Kind.{Kind}
use Rattle.model_base.specs.declared.deed.Kind.TheVariants.{Read, Insert, Update, Delete}
use Rattle.model_base.specs.declared.deed.Kinds.{Kinds}
use Rattle.model_base.specs.declared.deed.Grantee.{Grantee}
use Rattle.model_base.specs.declared.deed.Grantee.TheVariants.{User, Public}
use Rattle.model_base.specs.declared.deed.Grant.{Grant}
use Rattle.model_base.specs.declared.deed.Revocation.{Revocation}
use Rattle.model_base.specs.declared.deed.Need.{Need}
use Rattle.model_base.specs.declared.deed.Deed.{Deed}
use Rattle.model_base.specs.declared.deed.Deed.TheVariants.{Granting, Revoking}
use Rattle.model_base.specs.Ranks.{deed_number, rank}

-- whether the kind is among these
abbrev pub has_kind : Kinds → Kind → Bool
has_kind kinds Read = kinds.read
has_kind kinds Insert = kinds.insert
has_kind kinds Update = kinds.update
has_kind kinds Delete = kinds.delete

-- whether the two kinds are the same
abbrev pub same_kind : Kind → Kind → Bool
same_kind Read Read = true
same_kind Insert Insert = true
same_kind Update Update = true
same_kind Delete Delete = true
same_kind _ _ = false

-- the one kind alone
abbrev pub only : Kind → Kinds
only kind = record {
  read = same_kind kind Read;
  insert = same_kind kind Insert;
  update = same_kind kind Update;
  delete = same_kind kind Delete;
}

-- whether the user owns the table; `owners` has the user who created each table, in the tables' order
unfoldable pub owns : List ℕ → ℕ → ℕ → Bool
owns owners user table = option_map_or (λ owner. owner == user) (slice_get owners table) false

-- whether the two grantees are the same
abbrev pub same_grantee : Grantee → Grantee → Bool
same_grantee (User user) (User other) = user == other
same_grantee Public Public = true
same_grantee _ _ = false

-- whether the grantee is among these
abbrev pub has_grantee : List Grantee → Grantee → Bool
has_grantee grantees grantee = list_any (λ other. same_grantee other grantee) grantees

-- whether what is granted to the grantee is granted to the user: PUBLIC is every user, where no option is needed
abbrev pub reaches : Grantee → ℕ → Bool → Bool
reaches (User grantee) user option = grantee == user
reaches Public user option = not option

-- whether the grant gives the user what is needed
unfoldable pub gives : Grant → ℕ → Need → Bool
gives grant user need =
    reaches grant.grantee user need.option
    && (same_kind grant.kind need.kind && ((grant.table == need.table) && (grant.option || not need.option)))

-- the user that a grantee is; PUBLIC is none
abbrev pub user_of : Grantee → Option ℕ
user_of (User user) = Some user
user_of Public = None

-- to whom the grant gives the option: to its grantee, if it is with the option; PUBLIC never has it
abbrev pub option_holder : Grant → Option ℕ
option_holder grant = if grant.option then user_of grant.grantee else None

-- whether the grant gives the user the option
abbrev pub lends_to : Grant → ℕ → Bool
lends_to grant user = option_map_or (λ holder. holder == user) (option_holder grant) false

-- whether the user has what is needed as the table's owner, or by one of the grants
unfoldable pub has : List ℕ → List Grant → ℕ → Need → Bool
has owners grants user need = owns owners user need.table || list_any (λ grant. gives grant user need) grants

-- to grant a privilege, its grantor needs it with the grant option
abbrev pub option_of : Grant → Need
option_of grant = record { table = grant.table; kind = grant.kind; option = true }

-- whether the revocation speaks of the grant's kind, on the same table
abbrev pub concerns : Revocation → Grant → Bool
concerns revocation grant = has_kind revocation.kinds grant.kind && (revocation.table == grant.table)

-- whether the revocation names the grant
unfoldable pub names : Revocation → Grant → Bool
names revocation grant =
    (revocation.grantor == grant.grantor) && (has_grantee revocation.grantees grant.grantee && concerns revocation grant)

-- whether the deed is a revocation that names the grant
abbrev pub revokes : Deed → Grant → Bool
revokes (Granting _) grant = false
revokes (Revoking revocation) grant = names revocation grant

-- the grants of the deeds, in order, without each that a later revocation names
abbrev pub erased : List Deed → List Grant
erased [] = []
erased (Granting grant ∷ later) =
    if list_any (λ deed. revokes deed grant) later then erased later else grant ∷ erased later
erased (Revoking _ ∷ later) = erased later

-- the grants made again, in order, after those already in force: each is in force if its grantor has the option as owner, or by a grant
-- that is before it
abbrev pub replayed : List ℕ → List Grant → List Grant → List Grant
replayed owners standing [] = []
replayed owners standing (grant ∷ grants) =
    if has owners standing grant.grantor (option_of grant)
    then grant ∷ replayed owners (standing ++ grant ∷ []) grants
    else replayed owners standing grants

-- the grants in force after the deeds: those that the same sequence gives without the revoked grants
abbrev pub kept : List ℕ → List Deed → List Grant
kept owners deeds = replayed owners [] (erased deeds)

-- whether the user holds what is needed after the deeds
abbrev pub holds : List ℕ → List Deed → ℕ → Need → Bool
holds owners deeds user need = has owners (kept owners deeds) user need

-- whether the grant of this rank is among the grants
abbrev pub is_among : ℕ → List Grant → Bool
is_among ranked grants = list_any (λ grant. rank grant == ranked) grants

-- the ranks, in order, of the grants of the first list that the second no longer has
abbrev pub lost : List Grant → List Grant → List ℕ
lost [] after = []
lost (grant ∷ before) after = if is_among (rank grant) after then lost before after else rank grant ∷ lost before after

-- the ranks of the grants that a revocation takes out of force, after the deeds
abbrev pub ended_by : List ℕ → List Deed → Revocation → List ℕ
ended_by owners deeds revocation = lost (kept owners deeds) (kept owners (deeds ++ Revoking revocation ∷ []))

-- the place of the transaction that made the deed
abbrev pub place_of : Deed → ℕ
place_of (Granting grant) = grant.place
place_of (Revoking revocation) = revocation.place

-- the deeds made below a place
abbrev pub deeds_below : ℕ → List Deed → List Deed
deeds_below place deeds = filter (λ deed. nat_lt (place_of deed) place) deeds

-- whether a deed may be made after the others: a grant has a rank above their numbers, so those of its place are grants before it in order,
-- and its grantor holds the option by those below its place; a revocation has a place above theirs
abbrev pub MayFollow : List ℕ → List Deed → Deed → Type 0
MayFollow owners past (Granting grant) =
    All (λ deed. deed_number deed < rank grant) past
    × IsTrue (holds owners (deeds_below grant.place past) grant.grantor (option_of grant))
MayFollow owners past (Revoking revocation) = All (λ deed. place_of deed < revocation.place) past

-- each of the deeds may be made after those before it
abbrev pub IsProperAfter : List ℕ → List Deed → List Deed → Type 0
IsProperAfter owners past [] = Unit {0}
IsProperAfter owners past (deed ∷ later) = MayFollow owners past deed × IsProperAfter owners (past ++ deed ∷ []) later

-- each deed of the list may be made after those before it
abbrev pub IsProper : List ℕ → List Deed → Type 0
IsProper owners deeds = IsProperAfter owners [] deeds
