-- The order of what revocations name, what is in a set of it, and which grants those are.
use Rattle.std.proofs.Common.{◌≡◌, ℕ, ◌&&◌, ◌||◌, Bool, true, false, cond, List, [], ◌∷◌, ◌++◌, refl, sym, ◌∙◌, ap}
use Rattle.std.specs.Prelude.{◌==◌}
use Rattle.std.specs.BTreeMap.{is_at}
use Rattle.std.specs.BTreeSet.{BTreeSet, contains}
use Rattle.std.specs.List.{list_any}
use Rattle.std.proofs.lemmas.Bool.{and_parts, eqb-true}
use Rattle.std.proofs.lemmas.List.Folds.{list_any-append}
use Rattle.model_base.specs.declared.deed.Grant.{Grant}
use Rattle.model_base.specs.declared.deed.Grantee.{Grantee}
use Rattle.model_base.specs.declared.deed.Kind.{Kind}
use Rattle.model_base.specs.declared.deed.Kind.TheVariants.{Read, Insert, Update, Delete}
use Rattle.model_base.specs.declared.deed.Kinds.{Kinds}
use Rattle.model_base.specs.declared.deed.Revocation.{Revocation}
use Rattle.model_base.specs.Privileges.{concerns, has_kind, names, same_grantee, same_kind}
use Rattle.grants_base.specs.Sides.{holder_code}
use Rattle.grants_base.proofs.SideLaws.{holder_code-same}
use Rattle.log_batch.specs.declared.holders.HolderKey.{HolderKey}
use Rattle.log_batch.specs.declared.revoked.Named.{Named}
use Rattle.log_batch.specs.Holders.{grantee_holder, holder_of, same_holder}
use Rattle.log_batch.specs.Revoked.{is_between, named_by, named_cmp, named_with, names_of_kind, names_to, same_named}
use Rattle.log_batch.proofs.HolderSets.{and-turned, at_holder, cond-or, eqb-turned, is_eq-pair, same_holder-true, same_party}

at_named : (a b : Named) → is_at (named_cmp a) b ≡ same_named a b
at_named a b = is_eq-pair a.grantor b.grantor _ _ (at_holder a.holder b.holder)

abbrev make : ℕ → HolderKey → Named
make grantor holder = record { grantor = grantor; holder = holder }

-- only one itself is the same
pub same_named-true : (a b : Named) → same_named a b ≡ true → a ≡ b
same_named-true a b same =
    let parts = and_parts (a.grantor == b.grantor) (same_holder a.holder b.holder) same in
    ap (λ u. make u a.holder) (eqb-true a.grantor b.grantor parts.0)
    ∙ ap (λ h. make b.grantor h) (same_holder-true a.holder b.holder parts.1)

-- a grant is one of a kind that a revocation may name if it may name what each of the grant's revocations does
pub named-same : (revocation : Revocation) (grantee : Grantee) (kind : Kind) (grant : Grant)
    → same_named (named_by revocation grantee kind) (named_with grant) ≡ is_between revocation grantee kind grant
named-same revocation grantee kind grant =
    let holder = same_holder (holder_of grantee kind revocation.table) (grantee_holder grant) in
    ap (λ b. b && holder) (eqb-turned revocation.grantor grant.grantor)
    ∙ and-turned (grant.grantor == revocation.grantor) holder
    ∙ ap (λ b. b && (grant.grantor == revocation.grantor)) (sym (same_party grantee grant.grantee kind grant.kind revocation.table grant.table))

-- a set with what a revocation names of a kind to a grantee
pub named_added : (old new : BTreeSet Named) (revocation : Revocation) (grantee : Grantee) (kind : Kind) (grant : Grant)
    → contains named_cmp new (named_with grant) ≡ cond (is_at (named_cmp (named_by revocation grantee kind)) (named_with grant)) true (contains named_cmp old (named_with grant))
    → contains named_cmp new (named_with grant) ≡ (is_between revocation grantee kind grant || contains named_cmp old (named_with grant))
named_added old new revocation grantee kind grant updates =
    updates
    ∙ ap (λ b. cond b true (contains named_cmp old (named_with grant))) (at_named (named_by revocation grantee kind) (named_with grant) ∙ named-same revocation grantee kind grant)
    ∙ cond-or (is_between revocation grantee kind grant) (contains named_cmp old (named_with grant))

same_grantee-turned : (a b : Grantee) → same_grantee a b ≡ same_grantee b a
same_grantee-turned a b = sym (holder_code-same a b) ∙ eqb-turned (holder_code a) (holder_code b) ∙ holder_code-same b a

pub and_false : (a : Bool) → (a && false) ≡ false
and_false true = refl
and_false false = refl

or_false : (a : Bool) → (a || false) ≡ a
or_false true = refl
or_false false = refl

-- of the four kinds only the grant's own counts
of_four : (kinds : Kinds) (own : Kind) (base rest : Bool)
    → ((kinds.delete && (same_kind Delete own && base))
    || ((kinds.update && (same_kind Update own && base)) || ((kinds.insert && (same_kind Insert own && base)) || ((kinds.read && (same_kind Read own && base)) || rest))))
    ≡ ((has_kind kinds own && base) || rest)
of_four kinds Read base rest = rw (and_false kinds.delete, and_false kinds.update, and_false kinds.insert) refl
of_four kinds Insert base rest = rw (and_false kinds.delete, and_false kinds.update, and_false kinds.read) refl
of_four kinds Update base rest = rw (and_false kinds.delete, and_false kinds.insert, and_false kinds.read) refl
of_four kinds Delete base rest = rw (and_false kinds.update, and_false kinds.insert, and_false kinds.read) refl

shuffled : (a b c d : Bool) → ((a && (b && c)) && d) ≡ (b && (d && (a && c)))
shuffled true true true true = refl
shuffled true true true false = refl
shuffled true true false true = refl
shuffled true true false false = refl
shuffled true false c d = refl
shuffled false true c true = refl
shuffled false true c false = refl
shuffled false false c d = refl

taken_out : (a b c d : Bool) → (a && (b && (c && d))) ≡ (c && (a && (b && d)))
taken_out true true c d = refl
taken_out true false true d = refl
taken_out true false false d = refl
taken_out false b true d = refl
taken_out false b false d = refl

-- it names the grants by its grantor to a grantee, of its kinds on its table
pub names-kinds : (revocation : Revocation) (grantee : Grantee) (grant : Grant) (rest : Bool)
    → (names_of_kind revocation grantee Delete grant || (names_of_kind revocation grantee Update grant || (names_of_kind revocation grantee Insert grant || (names_of_kind revocation grantee Read grant || rest))))
    ≡ (names_to revocation (grantee ∷ []) grant || rest)
names-kinds revocation grantee grant rest =
    let by = grant.grantor == revocation.grantor in
    let to = same_grantee grant.grantee grantee in
    let on = revocation.table == grant.table in
    let base = by && (to && on) in
    let own : (kind : Kind) → is_between revocation grantee kind grant ≡ (same_kind kind grant.kind && base) = λ kind. shuffled to (same_kind kind grant.kind) on by in
    let named : names_to revocation (grantee ∷ []) grant ≡ (has_kind revocation.kinds grant.kind && base) =
    ap (λ b. b && ((same_grantee grantee grant.grantee || false) && concerns revocation grant)) (eqb-turned revocation.grantor grant.grantor)
    ∙ ap (λ b. by && (b && concerns revocation grant)) (or_false (same_grantee grantee grant.grantee) ∙ same_grantee-turned grantee grant.grantee)
    ∙ taken_out by to (has_kind revocation.kinds grant.kind) on in
    ap (λ b. (revocation.kinds.delete && b) || (names_of_kind revocation grantee Update grant || (names_of_kind revocation grantee Insert grant || (names_of_kind revocation grantee Read grant || rest)))) (own Delete)
    ∙ ap (λ b. (revocation.kinds.delete && (same_kind Delete grant.kind && base)) || ((revocation.kinds.update && b) || (names_of_kind revocation grantee Insert grant || (names_of_kind revocation grantee Read grant || rest)))) (own Update)
    ∙ ap (λ b. (revocation.kinds.delete && (same_kind Delete grant.kind && base)) || ((revocation.kinds.update && (same_kind Update grant.kind && base)) || ((revocation.kinds.insert && b) || (names_of_kind revocation grantee Read grant || rest)))) (own Insert)
    ∙ ap (λ b. (revocation.kinds.delete && (same_kind Delete grant.kind && base)) || ((revocation.kinds.update && (same_kind Update grant.kind && base)) || ((revocation.kinds.insert && (same_kind Insert grant.kind && base)) || ((revocation.kinds.read && b) || rest)))) (own Read)
    ∙ of_four revocation.kinds grant.kind base rest
    ∙ ap (λ b. b || rest) (sym named)

-- what it names is what it names to its grantees
pub names-to : (revocation : Revocation) (grant : Grant) → names revocation grant ≡ names_to revocation revocation.grantees grant
unfolding names
names-to revocation grant = refl

one_more : (by to about among rest : Bool) → ((by && (to && about)) || ((by && (among && about)) || rest)) ≡ ((by && ((among || to) && about)) || rest)
one_more false to about among rest = refl
one_more true true true true rest = refl
one_more true true true false rest = refl
one_more true true false true rest = refl
one_more true true false false rest = refl
one_more true false about true rest = refl
one_more true false about false rest = refl

-- what it names to one grantee more
pub names-more : (revocation : Revocation) (grantees : List Grantee) (grantee : Grantee) (grant : Grant) (rest : Bool)
    → (names_to revocation (grantee ∷ []) grant || (names_to revocation grantees grant || rest)) ≡ (names_to revocation (grantees ++ grantee ∷ []) grant || rest)
names-more revocation grantees grantee grant rest =
    let by = revocation.grantor == grant.grantor in
    let about = concerns revocation grant in
    let to : Grantee → Bool = λ other. same_grantee other grant.grantee in
    one_more by (list_any to (grantee ∷ [])) about (list_any to grantees) rest
    ∙ ap (λ among. (by && (among && about)) || rest) (sym (list_any-append to grantees (grantee ∷ [])))
