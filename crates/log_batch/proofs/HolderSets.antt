-- The order of users with a kind on a table, and who is in a set of them.
use Rattle.std.proofs.Common.{◌≡◌, ℕ, ◌&&◌, ◌||◌, Bool, true, false, cond, eqb, ltb, refl, sym, ◌∙◌, ap, arith}
use Rattle.std.specs.Prelude.{◌==◌}
use Rattle.std.specs.BTreeMap.{is_at}
use Rattle.std.specs.BTreeSet.{BTreeSet, contains}
use Rattle.std.specs.Ordering.{is_eq, nat_cmp, ordering_then}
use Rattle.std.specs.declared.cmp.Ordering.{Ordering}
use Rattle.std.specs.declared.cmp.Ordering.TheVariants.{Less, Equal, Greater}
use Rattle.std.proofs.lemmas.Bool.{and_parts, eqb-true}
use Rattle.std.proofs.lemmas.Bool.Decides.{nat_tests}
use Rattle.model_base.specs.declared.deed.Grant.{Grant}
use Rattle.model_base.specs.declared.deed.Grantee.{Grantee}
use Rattle.model_base.specs.declared.deed.Grantee.TheVariants.{User}
use Rattle.model_base.specs.declared.deed.Kind.{Kind}
use Rattle.model_base.specs.declared.deed.Kind.TheVariants.{Read, Insert, Update, Delete}
use Rattle.model_base.specs.Privileges.{same_grantee, same_kind}
use Rattle.grants_base.specs.Index.{is_by}
use Rattle.log_batch.specs.declared.holders.HolderKey.{HolderKey}
use Rattle.log_batch.specs.Holders.{grantor_of, holder_cmp, holder_of, same_holder}
use Rattle.grants_base.specs.Sides.{holder_code}
use Rattle.model_base.specs.Ranks.{kind_code}
use Rattle.grants_base.proofs.SideLaws.{holder_code-same}
use Rattle.model_base.proofs.Replay.{by_cases}

is_eq-nat_cmp : (x y : ℕ) → is_eq (nat_cmp x y) ≡ eqb x y
is_eq-nat_cmp x y =
    by_cases (ltb x y)
    (λ less. let other : eqb x y ≡ false = grind (arith, nat_tests) in rw (less, other) refl)
    (λ same. rw same (by_cases (eqb x y) (λ e. rw e refl) (λ e. rw e refl)))

is_eq-ordering_then : (o p : Ordering) → is_eq (ordering_then o p) ≡ (is_eq o && is_eq p)
is_eq-ordering_then Less p = refl
is_eq-ordering_then Equal p = refl
is_eq-ordering_then Greater p = refl

-- two numbers in order are equal exactly if both are
pub is_eq-pair : (x y : ℕ) (o : Ordering) (rest : Bool) → is_eq o ≡ rest → is_eq (ordering_then (nat_cmp x y) o) ≡ ((x == y) && rest)
is_eq-pair x y o rest is =
    is_eq-ordering_then (nat_cmp x y) o ∙ ap (λ b. is_eq (nat_cmp x y) && b) is ∙ ap (λ b. b && rest) (is_eq-nat_cmp x y)

pub at_holder : (a b : HolderKey) → is_at (holder_cmp a) b ≡ same_holder a b
at_holder a b = is_eq-pair a.holder b.holder _ _ (is_eq-pair a.table b.table _ _ (is_eq-nat_cmp a.kind b.kind))

pub cond-or : (b rest : Bool) → cond b true rest ≡ (b || rest)
cond-or true rest = refl
cond-or false rest = refl

-- a set with one more
pub holder_added : (old new : BTreeSet HolderKey) (holder other : HolderKey)
    → contains holder_cmp new other ≡ cond (is_at (holder_cmp holder) other) true (contains holder_cmp old other)
    → contains holder_cmp new other ≡ (same_holder holder other || contains holder_cmp old other)
holder_added old new holder other updates =
    updates ∙ ap (λ b. cond b true (contains holder_cmp old other)) (at_holder holder other) ∙ cond-or (same_holder holder other) (contains holder_cmp old other)

abbrev make : ℕ → ℕ → ℕ → HolderKey
make holder table kind = record { holder = holder; table = table; kind = kind }

-- only one itself is the same
pub same_holder-true : (a b : HolderKey) → same_holder a b ≡ true → a ≡ b
same_holder-true a b same =
    let one = and_parts (a.holder == b.holder) ((a.table == b.table) && (a.kind == b.kind)) same in
    let two = and_parts (a.table == b.table) (a.kind == b.kind) one.1 in
    ap (λ u. make u a.table a.kind) (eqb-true a.holder b.holder one.0)
    ∙ ap (λ t. make b.holder t a.kind) (eqb-true a.table b.table two.0)
    ∙ ap (λ k. make b.holder b.table k) (eqb-true a.kind b.kind two.1)

pub same_kind-code : (kind other : Kind) → same_kind kind other ≡ (kind_code kind == kind_code other)
same_kind-code Read Read = refl
same_kind-code Read Insert = refl
same_kind-code Read Update = refl
same_kind-code Read Delete = refl
same_kind-code Insert Read = refl
same_kind-code Insert Insert = refl
same_kind-code Insert Update = refl
same_kind-code Insert Delete = refl
same_kind-code Update Read = refl
same_kind-code Update Insert = refl
same_kind-code Update Update = refl
same_kind-code Update Delete = refl
same_kind-code Delete Read = refl
same_kind-code Delete Insert = refl
same_kind-code Delete Update = refl
same_kind-code Delete Delete = refl

pub eqb-turned : (a b : ℕ) → (a == b) ≡ (b == a)
eqb-turned a b =
    by_cases (a == b)
    (λ e. let other : (b == a) ≡ true = grind (arith, nat_tests) in e ∙ sym other)
    (λ e. let other : (b == a) ≡ false = grind (arith, nat_tests) in e ∙ sym other)

pub and-turned : (a b : Bool) → (a && b) ≡ (b && a)
and-turned true true = refl
and-turned true false = refl
and-turned false true = refl
and-turned false false = refl

pub same_party : (holder other : Grantee) (kind kind' : Kind) (table table' : ℕ)
    → (same_grantee other holder && (same_kind kind kind' && (table == table'))) ≡ same_holder (holder_of holder kind table) (holder_of other kind' table')
same_party holder other kind kind' table table' =
    ap (λ b. b && (same_kind kind kind' && (table == table'))) (sym (holder_code-same other holder) ∙ eqb-turned (holder_code other) (holder_code holder))
    ∙ ap (λ b. (holder_code holder == holder_code other) && b) (and-turned (same_kind kind kind') (table == table') ∙ ap (λ b. (table == table') && b) (same_kind-code kind kind'))

-- a grant is by a user, of a kind on a table, if its grantor with its own is that
pub by-holder : (user : ℕ) (kind : Kind) (table : ℕ) (grant : Grant) → is_by user kind table grant ≡ same_holder (holder_of (User user) kind table) (grantor_of grant)
by-holder user kind table grant = same_party (User user) (User grant.grantor) kind grant.kind table grant.table

pub by_holder : (user : ℕ) (kind : Kind) (table : ℕ) (grant : Grant) → is_by user kind table grant ≡ same_holder (holder_of (User user) kind table) (grantor_of grant)
by_holder = by-holder
