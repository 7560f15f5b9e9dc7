-- Who is admitted, and what a denial says, without the tests by which they are found: a user holds a privilege as the owner
-- of the table, or by a grant that is in force.
use Rattle.std.specs.Prelude.{◌≡◌, ◌⊎◌, ℕ, ◌<◌, true, false, Option, Some, None, List, ◌∷◌, ◌++◌, All, Any, slice_get, take}
use Rattle.model_base.specs.declared.deed.Grantee.{Grantee}
use Rattle.model_base.specs.declared.deed.Grantee.TheVariants.{User, Public}
use Rattle.model_base.specs.declared.deed.Grant.{Grant}
use Rattle.model_base.specs.declared.deed.Revocation.{Revocation}
use Rattle.model_base.specs.declared.deed.Need.{Need}
use Rattle.model_base.specs.declared.deed.Cause.{Cause}
use Rattle.model_base.specs.declared.deed.Cause.TheVariants.{Never, Taken}
use Rattle.model_base.specs.declared.deed.Deed.{Deed}
use Rattle.model_base.specs.declared.deed.Deed.TheVariants.{Revoking}
use Rattle.model_base.specs.declared.statement.Form.{Form}
use Rattle.model_base.specs.declared.statement.Statement.{Statement}
use Rattle.model_base.specs.declared.outcome.Outcome.{Outcome}
use Rattle.model_base.specs.Privileges.{kept}

-- the grantee is the user, or PUBLIC, which never has the option
abbrev pub IsTo : Grantee → ℕ → Need → Type 0
IsTo (User grantee) user need = grantee ≡ user
IsTo Public user need = need.option ≡ false

-- the grant gives the user the need: its kind on its table, with the option if the need is with it
pub record GivesNeed (grant : Grant) (user : ℕ) (need : Need) : Type 0 where
  pub grantee : IsTo grant.grantee user need
  pub kind : grant.kind ≡ need.kind
  pub table : grant.table ≡ need.table
  pub option : need.option ≡ true → grant.option ≡ true

-- the user holds the need after the deeds: as the owner of the table, or by a grant in force, to the user or to PUBLIC
abbrev pub IsPrivileged : List ℕ → List Deed → ℕ → Need → Type 0
IsPrivileged owners deeds user need =
    (slice_get owners need.table ≡ Some user) ⊎ Any (λ grant. GivesNeed grant user need) (kept owners deeds)

-- of the needs in order, this is the first that the user doesn't hold after the deeds
pub record IsFirstMissing (owners : List ℕ) (deeds : List Deed) (user : ℕ) (needs : List Need) (need : Need) : Type 0 where
  pub earlier : List Need
  pub later : List Need
  pub in_order : needs ≡ earlier ++ need ∷ later
  pub held : All (IsPrivileged owners deeds user) earlier
  pub missing : ¬ IsPrivileged owners deeds user need

-- the revocation of this place took the need away last: the deeds before it give the need, and no longer beginning of the
-- deeds does
pub record WasTaken (owners : List ℕ) (deeds : List Deed) (user : ℕ) (need : Need) (place : ℕ) : Type 0 where
  pub index : ℕ
  pub revocation : Revocation
  pub there : slice_get deeds index ≡ Some (Revoking revocation)
  pub here : revocation.place ≡ place
  pub before : IsPrivileged owners (take index deeds) user need
  pub after : (n : ℕ) → index < n → ¬ IsPrivileged owners (take n deeds) user need

-- why a need isn't held: no beginning of the deeds gives it, or a revocation took it away last
abbrev pub IsCause : List ℕ → List Deed → ℕ → Need → Cause → Type 0
IsCause owners deeds user need Never = (n : ℕ) → ¬ IsPrivileged owners (take n deeds) user need
IsCause owners deeds user need (Taken place) = WasTaken owners deeds user need place

-- what a denial says: the first need that isn't held, and why it isn't
pub record IsDenial (owners : List ℕ) (deeds : List Deed) (user : ℕ) (needs : List Need) (need : Need) (why : Cause) : Type 0 where
  pub first : IsFirstMissing owners deeds user needs need
  pub cause : IsCause owners deeds user need why

-- a RUN or a deed; a CREATE asks for no privilege
abbrev pub AsksForPrivileges : Form → Type 0
AsksForPrivileges (Form.Create table columns) = ⊥
AsksForPrivileges (Form.Run accesses steps deed) = Unit {0}
AsksForPrivileges (Form.Deed deed) = Unit {0}

-- the statement of a place of the log is this RUN or deed
pub record IsAsked (log : List Statement) (place : ℕ) (statement : Statement) : Type 0 where
  pub there : slice_get log place ≡ Some statement
  pub asks : AsksForPrivileges statement.form

-- the outcome of a statement that was admitted: its body was run to its end, was aborted, or touched what isn't declared
abbrev pub WasAdmitted : Option Outcome → Type 0
WasAdmitted (Some (Outcome.Done outputs deed)) = Unit {0}
WasAdmitted (Some (Outcome.Aborted step reason)) = Unit {0}
WasAdmitted (Some (Outcome.Undeclared step)) = Unit {0}
WasAdmitted (Some Outcome.Created) = ⊥
WasAdmitted (Some (Outcome.Denied need cause)) = ⊥
WasAdmitted None = ⊥

-- the outcome of a statement that was denied
abbrev pub WasDenied : Option Outcome → Type 0
WasDenied (Some (Outcome.Denied need cause)) = Unit {0}
WasDenied (Some (Outcome.Done outputs deed)) = ⊥
WasDenied (Some (Outcome.Aborted step reason)) = ⊥
WasDenied (Some (Outcome.Undeclared step)) = ⊥
WasDenied (Some Outcome.Created) = ⊥
WasDenied None = ⊥

-- the outcome of a statement that failed: it was denied, or its body was aborted, or touched what isn't declared
abbrev pub HasFailed : Option Outcome → Type 0
HasFailed (Some (Outcome.Denied need cause)) = Unit {0}
HasFailed (Some (Outcome.Aborted step reason)) = Unit {0}
HasFailed (Some (Outcome.Undeclared step)) = Unit {0}
HasFailed (Some (Outcome.Done outputs deed)) = ⊥
HasFailed (Some Outcome.Created) = ⊥
HasFailed None = ⊥
