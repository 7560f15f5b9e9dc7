-- Who holds a privilege after some deeds: the table's owner, whom a grant in force gives it by name, and all users, where a grant to PUBLIC
-- gives it. That the grants left in force say who holds what is from P. P. Griffiths and B. W. Wade, "An Authorization Mechanism for a
-- Relational Database System", ACM Transactions on Database Systems 1 (1976). Holders by name, apart from PUBLIC, are this project's own.
use Rattle.std.specs.Prelude.{◌≡◌, ◌↔◌, ◌&&◌, not, ℕ, Bool, true, Contains, List}
use Rattle.std.specs.List.{list_any}
use Rattle.std.specs.List.Sorted.{IsStrictlyIncreasing}
use Rattle.model_base.specs.declared.deed.Deed.{Deed}
use Rattle.model_base.specs.declared.deed.Grant.{Grant}
use Rattle.model_base.specs.declared.deed.Grantee.TheVariants.{Public, User}
use Rattle.model_base.specs.declared.deed.Need.{Need}
use Rattle.model_base.specs.Privileges.{gives, kept, owns, same_grantee}
use Rattle.grants_base.specs.Index.{is_to}

-- whether the grant gives the user what is needed by name: one to PUBLIC doesn't
abbrev pub gives_by_name : Grant → ℕ → Need → Bool
gives_by_name grant user need = same_grantee grant.grantee (User user) && gives grant user need

-- whether the grant gives every user what is needed: it is to PUBLIC, and no option is needed
abbrev pub gives_everyone : Grant → Need → Bool
gives_everyone grant need = not need.option && is_to Public need.kind need.table grant

-- whether the user doesn't own the table, and a grant in force gives the user by name what is needed
abbrev pub is_holder : List ℕ → List Deed → Need → ℕ → Bool
is_holder owners deeds need user =
    not (owns owners user need.table) && list_any (λ grant. gives_by_name grant user need) (kept owners deeds)

-- whether a grant in force gives every user what is needed
abbrev pub is_given_to_all : List ℕ → List Deed → Need → Bool
is_given_to_all owners deeds need = list_any (λ grant. gives_everyone grant need) (kept owners deeds)

-- these are the holders, by number, each once
pub record AreHolders (owners : List ℕ) (deeds : List Deed) (need : Need) (users : List ℕ) : Type 0 where
  pub rising : IsStrictlyIncreasing users
  pub all : (user : ℕ) → Contains users user ↔ (is_holder owners deeds need user ≡ true)
