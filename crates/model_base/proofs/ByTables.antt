-- What the records of some tables tell about these tables is what all records tell.
use Rattle.std.proofs.Common.{◌≡◌, ℕ, zero, suc, Bool, true, List, [], ◌∷◌, filter, refl, ◌∙◌, ap, is_none}
use Rattle.std.specs.Prelude.{nat_lt}
use Rattle.model_base.specs.declared.deed.Kind.{Kind}
use Rattle.model_base.specs.declared.deed.Record.{Record}
use Rattle.model_base.specs.declared.deed.Need.{Need}
use Rattle.model_base.specs.Privileges.{has}
use Rattle.model_base.specs.Records.{in_force, holds_by, covered, cut, last_loss_by}
use Rattle.model_base.proofs.Replay.{by_cases}
use Rattle.model_base.proofs.Covered.{is_covered, has-covered}

-- cutting the records of some tables is taking those of the cut records
pub cut-covered : (covers : ℕ → Bool) (place : ℕ) (entries : List Record) → cut place (covered covers entries) ≡ covered covers (cut place entries)
cut-covered covers place [] = refl
cut-covered covers place (entry ∷ entries) =
    let rest = cut-covered covers place entries in
    by_cases (covers entry.grant.table)
    (λ here. by_cases (nat_lt entry.grant.place place) (λ less. rw (here, less, here, rest) refl) (λ more. rw (here, more, rest) refl))
    (λ other. by_cases (nat_lt entry.grant.place place) (λ less. rw (other, less, other, rest) refl) (λ more. rw (other, more, rest) refl))

-- the records of some kinds on some tables
abbrev pub taken : (Kind → ℕ → Bool) → List Record → List Record
taken covers entries = filter (λ (entry : Record). covers entry.grant.kind entry.grant.table) entries

-- their grants in force are those of all records that are of these kinds on these tables
pub in_force-taken : (owners : List ℕ) (covers : Kind → ℕ → Bool) (entries : List Record)
    → in_force (taken covers entries) ≡ filter (is_covered owners covers) (in_force entries)
in_force-taken owners covers [] = refl
in_force-taken owners covers (entry ∷ entries) =
    let rest = in_force-taken owners covers entries in
    by_cases (covers entry.grant.kind entry.grant.table)
    (λ here. by_cases (is_none entry.end) (λ unended. rw (here, unended, here, rest) refl) (λ ended. rw (here, ended, rest) refl))
    (λ other. by_cases (is_none entry.end) (λ unended. rw (other, unended, other, rest) refl) (λ ended. rw (other, ended, rest) refl))

module _ (owners : List ℕ) (covers : ℕ → Bool) where
  -- the records of some tables tell who holds what on these tables
  pub holds_by-covered : (entries : List Record) (user : ℕ) (need : Need) → covers need.table ≡ true
      → holds_by owners (covered covers entries) user need ≡ holds_by owners entries user need
  holds_by-covered entries user need cover =
      ap (λ grants. has owners grants user need) (in_force-taken owners (λ kind table. covers table) entries)
      ∙ has-covered owners (λ kind table. covers table) (in_force entries) user need cover

  -- so they tell which place took a need away last
  pub last_loss-covered : (entries : List Record) (user : ℕ) (need : Need) (place : ℕ) → covers need.table ≡ true
      → last_loss_by owners (covered covers entries) user need place ≡ last_loss_by owners entries user need place
  last_loss-covered entries user need zero cover = refl
  last_loss-covered entries user need (suc place) cover =
      rw (cut-covered covers place entries, cut-covered covers (suc place) entries, holds_by-covered (cut place entries) user need cover, holds_by-covered (cut (suc place) entries) user need cover, last_loss-covered entries user need place cover)
      refl
