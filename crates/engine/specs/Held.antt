-- Needs that were found held, and stay so until a revocation: a grant adds to what is in force, and a revocation alone takes from
-- it (P. P. Griffiths and B. W. Wade, "An Authorization Mechanism for a Relational Database System", ACM Transactions on Database
-- Systems 1, 1976). That they are remembered is this project's own.
use Rattle.std.specs.Prelude.{◌≡◌, ◌≤◌, ℕ, Bool, All, List, false, slice_get, true}
use Rattle.model_base.specs.declared.deed.Kind.{Kind}
use Rattle.model_base.specs.declared.deed.Need.{Need}
use Rattle.model_base.specs.Privileges.{has_kind}
use Rattle.model_base.specs.Records.{in_force}
use Rattle.grants_base.specs.Book.{Entries, owners_of}
use Rattle.grants_base.specs.View.{has_by}
use Rattle.engine.specs.declared.held.HeldKinds.{HeldKinds}

-- whether the user has what is needed, by the owners of the tables and the grants of the book that have no end
abbrev pub has_now : Entries → ℕ → Need → Bool
has_now book user need = has_by (slice_get (owners_of book.tables)) (in_force book.records) user need

-- so it is with each of these needs
abbrev pub HasAll : Entries → ℕ → List Need → Type 0
HasAll book user needed = All (λ need. has_now book user need ≡ true) needed

-- to use a table in this way, without the right to grant it further
abbrev pub use_of : ℕ → Kind → Need
use_of table kind = record { table = table; kind = kind; option = false }

-- for some users and tables the kinds that were found held, each with the number of revocations before, and how many there were
pub record Memory : Type 0 where
  pub pairs : List HeldKinds
  pub revocations : ℕ

-- the kinds are held, if no revocation came since they were found so
abbrev pub IsHeld : Entries → ℕ → HeldKinds → Type 0
IsHeld book revocations pair =
    pair.revocations ≡ revocations → (kind : Kind) → has_kind pair.kinds kind ≡ true
    → has_now book pair.user (use_of pair.table kind) ≡ true

-- what is remembered is held
abbrev pub AreHeld : Entries → Memory → Type 0
AreHeld book memory = All (IsHeld book memory.revocations) memory.pairs

-- and none of it was found after later revocations
abbrev pub AreEarlier : Memory → Type 0
AreEarlier memory = All (λ (pair : HeldKinds). pair.revocations ≤ memory.revocations) memory.pairs
