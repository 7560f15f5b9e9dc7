-- Whom a grant reaches.
use Rattle.std.proofs.Common.{◌≡◌, ℕ, ◌||◌, ◌&&◌, not, Bool, true, false, refl, ◌∙◌, ap, eq-eqb}
use Rattle.std.specs.Prelude.{◌==◌, if◌then◌else◌}
use Rattle.std.specs.Option.{option_map_or}
use Rattle.std.specs.Prelude.{Option, Some, None}
use Rattle.std.proofs.lemmas.Bool.{eqb-true}
use Rattle.model_base.specs.declared.deed.Kind.{Kind}
use Rattle.model_base.specs.declared.deed.Kind.TheVariants.{Read, Insert, Update, Delete}
use Rattle.model_base.specs.declared.deed.Grantee.{Grantee}
use Rattle.model_base.specs.declared.deed.Grantee.TheVariants.{Public, User}
use Rattle.model_base.specs.declared.deed.Grant.{Grant}
use Rattle.model_base.specs.declared.deed.Need.{Need}
use Rattle.model_base.specs.Privileges.{gives, lends_to, option_holder, reaches, same_grantee, same_kind, user_of}

and_true : (a : Bool) → (a && true) ≡ a
and_true true = refl
and_true false = refl

and_false : (a : Bool) → (a && false) ≡ false
and_false true = refl
and_false false = refl

or_true : (a : Bool) → (a || true) ≡ true
or_true true = refl
or_true false = refl

-- each kind is the same as itself
pub kind-same : (kind : Kind) → same_kind kind kind ≡ true
kind-same Read = refl
kind-same Insert = refl
kind-same Update = refl
kind-same Delete = refl

-- so is each grantee
pub grantee-same : (grantee : Grantee) → same_grantee grantee grantee ≡ true
grantee-same (User user) = eq-eqb user user refl
grantee-same Public = refl

-- grantees that are the same are one
pub grantee-true : (a b : Grantee) → same_grantee a b ≡ true → a ≡ b
grantee-true (User a) (User b) is = ap (λ (u : ℕ). User u) (eqb-true a b is)
grantee-true (User a) Public is = absurd (cc)
grantee-true Public (User b) is = absurd (cc)
grantee-true Public Public is = refl

-- whom a grantee reaches with the option, if there is one
lends_by : (grantee : Grantee) (option : Bool) (user : ℕ)
    → (reaches grantee user true && (option || false)) ≡ option_map_or (λ holder. holder == user) (if option then user_of grantee else None) false
lends_by (User grantee) true user = and_true (grantee == user)
lends_by (User grantee) false user = and_false (grantee == user)
lends_by Public true user = refl
lends_by Public false user = refl

-- what a grant of the kind on the table gives
pub gives_about : (grant : Grant) (user : ℕ) (need : Need) → grant.kind ≡ need.kind → grant.table ≡ need.table
    → gives grant user need ≡ (reaches grant.grantee user need.option && (grant.option || not need.option))
unfolding gives
gives_about grant user need kind table = rw (kind, kind-same need.kind, table, eq-eqb need.table need.table refl) refl

-- the option is given to whom the grant lends it
pub gives_option : (grant : Grant) (user : ℕ) (need : Need) → grant.kind ≡ need.kind → grant.table ≡ need.table → need.option ≡ true
    → gives grant user need ≡ lends_to grant user
gives_option grant user need kind table option =
    gives_about grant user need kind table
    ∙ ap (λ (o : Bool). reaches grant.grantee user o && (grant.option || not o)) option
    ∙ lends_by grant.grantee grant.option user

-- the kind is given to whom the grantee is
pub gives_kind : (grant : Grant) (user : ℕ) → gives grant user (record { table = grant.table; kind = grant.kind; option = false }) ≡ reaches grant.grantee user false
gives_kind grant user =
    gives_about grant user (record { table = grant.table; kind = grant.kind; option = false }) refl refl
    ∙ ap (λ (b : Bool). reaches grant.grantee user false && b) (or_true grant.option)
    ∙ and_true (reaches grant.grantee user false)

-- PUBLIC has no option
pub lends_none : (grant : Grant) (user : ℕ) → grant.grantee ≡ Public → lends_to grant user ≡ false
lends_none grant user is =
    ap (λ (g : Grantee). option_map_or (λ holder. holder == user) (if grant.option then user_of g else None) false) is
    ∙ none grant.option
  where
    none : (option : Bool) → option_map_or (λ holder. holder == user) (if option then user_of Public else None) false ≡ false
    none true = refl
    none false = refl

-- whom a grant lends the option is its grantee
pub holder_is : (grant : Grant) (user : ℕ) → option_holder grant ≡ Some user → grant.grantee ≡ User user
holder_is grant user is = by_option grant.grantee grant.option is
  where
    by_option : (grantee : Grantee) (option : Bool) → (if option then user_of grantee else None) ≡ Some user → grantee ≡ User user
    by_option (User grantee) true same = let one : grantee ≡ user = cc in ap (λ (u : ℕ). User u) one
    by_option Public true same = absurd (cc)
    by_option grantee false same = absurd (cc)

-- one whom the grant lends the option has it by the grant
pub lends_is : (grant : Grant) (user : ℕ) → lends_to grant user ≡ true → option_holder grant ≡ Some user
lends_is grant user is = by_holder (option_holder grant) is
  where
    by_holder : (holder : Option ℕ) → option_map_or (λ (h : ℕ). h == user) holder false ≡ true → holder ≡ Some user
    by_holder None same = absurd (cc)
    by_holder (Some h) same = ap Some (eqb-true h user same)
