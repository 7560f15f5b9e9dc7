-- The next slot that may have a grant that a revocation names.
use Rattle.std.proofs.Common.{◌≡◌, ℕ, ◌&&◌, ◌||◌, Bool, true, false, List, [], ◌∷◌, ◌++◌, Option, Some, None, is_none, refl, sym, ◌∙◌, subst, eq-eqb, inl, inr}
use Rattle.std.specs.Prelude.{◌==◌, ◌≢◌, ◌⊎◌}
use Rattle.std.specs.List.{list_any}
use Rattle.std.proofs.lemmas.Bool.{true≢false, and_parts, eqb-true, or_cases}
use Rattle.std.proofs.lemmas.List.Folds.{list_any-append}
use Rattle.model_base.specs.declared.deed.Grant.{Grant}
use Rattle.model_base.specs.declared.deed.Grantee.{Grantee}
use Rattle.model_base.specs.declared.deed.Kind.{Kind}
use Rattle.model_base.specs.declared.deed.Kind.TheVariants.{Read, Insert, Update, Delete}
use Rattle.model_base.specs.declared.deed.Record.{Record}
use Rattle.model_base.specs.declared.deed.Revocation.{Revocation}
use Rattle.model_base.specs.Privileges.{concerns, has_grantee, names, same_grantee}
use Rattle.model_base.proofs.Reaching.{grantee-true}
use Rattle.model_base.proofs.Replay.{by_cases}
use Rattle.grants_base.specs.Force.{gives_by, is_in_force}
use Rattle.grants_base.specs.Index.{AreAsked, IsFirst, IsNext, is_to, passes_at}
use Rattle.grants_base.specs.View.{View, slot_at}
use Rattle.grants.specs.Pass.{concerned}
use Rattle.grants.specs.Work.{IsNextNamed, IsOnlySlot}
use Rattle.grants.proofs.Asked.{about_kind, candidate-skipped, found_within, named-skipped, same-grantee}
use Rattle.grants.proofs.Candidates.{closed_but, in_force-within}

-- a kind is one of the four
pub by_kind : (P : Type 0) (kind : Kind) → (kind ≡ Read → P) → (kind ≡ Insert → P) → (kind ≡ Update → P) → (kind ≡ Delete → P) → P
by_kind P Read read insert update delete = read refl
by_kind P Insert read insert update delete = insert refl
by_kind P Update read insert update delete = update refl
by_kind P Delete read insert update delete = delete refl

-- a grant that is named is to one of the revocation's grantees
pub grantee-named : (revocation : Revocation) (grant : Grant) → names revocation grant ≡ true → has_grantee revocation.grantees grant.grantee ≡ true
unfolding names
grantee-named revocation grant named =
    let rest = and_parts (revocation.grantor == grant.grantor) (has_grantee revocation.grantees grant.grantee && concerns revocation grant) named in
    (and_parts (has_grantee revocation.grantees grant.grantee) (concerns revocation grant) rest.1).0

-- one of some grantees, or one more
pub among_more : (grantees : List Grantee) (one grantee : Grantee) → has_grantee (grantees ++ one ∷ []) grantee ≡ true
    → (has_grantee grantees grantee ≡ true) ⊎ (grantee ≡ one)
among_more grantees one grantee among =
    let to : Grantee → Bool = λ other. same_grantee other grantee in
    elim (or_cases (list_any to grantees) (list_any to (one ∷ [])) (sym (list_any-append to grantees (one ∷ [])) ∙ among)) [
      | inl before ↦ inl before
      | inr now ↦ inr (sym (grantee-true one grantee (sym (or_false (same_grantee one grantee)) ∙ now)))
    ]
  where
    or_false : (a : Bool) → (a || false) ≡ a
    or_false true = refl
    or_false false = refl

-- a grant that is named is by the revocation's grantor
other_way : (a b : ℕ) → (a == b) ≡ true → (b == a) ≡ true
other_way a b is = eq-eqb b a (sym (eqb-true a b is))

given_by : (revocation : Revocation) (grantee : Grantee) (kind : Kind) (grant : Grant) → grant.grantee ≡ grantee → grant.kind ≡ kind
    → names revocation grant ≡ true → gives_by revocation.grantor grantee kind revocation.table grant ≡ true
unfolding names
given_by revocation grantee kind grant to same named =
    let parts = and_parts (revocation.grantor == grant.grantor) (has_grantee revocation.grantees grant.grantee && concerns revocation grant) named in
    let rest = and_parts (has_grantee revocation.grantees grant.grantee) (concerns revocation grant) parts.1 in
    let about = about_kind revocation grant kind rest.1 same in
    rw (same-grantee grant.grantee grantee to, about, other_way revocation.grantor grant.grantor parts.0) refl

-- a slot with no grant in force by the one to the other has none of the kind that is named
unforced : (revocation : Revocation) (grantee : Grantee) (kind : Kind) (slot : Option Record) (grant : Grant)
    → is_in_force (gives_by revocation.grantor grantee kind revocation.table) slot ≡ false
    → concerned slot revocation ≡ Some grant → grant.grantee ≡ grantee → grant.kind ≡ kind → names revocation grant ≡ true → ⊥
unforced revocation grantee kind None grant lacks is to same named = cc
unforced revocation grantee kind (Some entry) grant lacks is to same named =
    by_cases (is_none entry.end && concerns revocation entry.grant)
    (λ both.
    let free = (and_parts (is_none entry.end) (concerns revocation entry.grant) both).0 in
    let found : Some entry.grant ≡ Some grant = rw both at is in
    let one : entry.grant ≡ grant = cc in
    let given = given_by revocation grantee kind grant to same named in
    let gives : gives_by revocation.grantor grantee kind revocation.table entry.grant ≡ true =
    subst (λ (g : Grant). gives_by revocation.grantor grantee kind revocation.table g ≡ true) (sym one) given in
    true≢false (sym (rw (free, gives) refl) ∙ lacks))
    (λ other. let none = rw other at is in cc)

module _ (view : View) (revocation : Revocation) (grantee : Grantee) (kind : Kind) (from : ℕ) where
  pub named_by_index : (found : Option ℕ)
      → IsFirst (λ k. is_in_force (gives_by revocation.grantor grantee kind revocation.table) (slot_at view k)) from found
      → IsNextNamed revocation grantee kind view from found
  named_by_index None none = record { there = tt; passed = λ k grant low before. unforced revocation grantee kind (slot_at view k) grant (none k low) }
  named_by_index (Some i) some = record {
    there = (some.0, in_force-within view.slots (gives_by revocation.grantor grantee kind revocation.table) i some.1);
    passed = λ k grant low before. unforced revocation grantee kind (slot_at view k) grant (some.2 k low before);
  }

  module _ (asked : List Grant) (are : AreAsked view asked) where
    skipped : (k : ℕ) (grant : Grant) → passes_at (is_to grantee kind revocation.table) asked k ≡ false
        → concerned (slot_at view k) revocation ≡ Some grant → grant.grantee ≡ grantee → grant.kind ≡ kind → names revocation grant ≡ true → ⊥
    skipped k grant none =
        named-skipped view revocation grantee kind k grant (candidate-skipped view asked are revocation grantee kind false k none)

    pub named_by_slots : (found : Option ℕ) → IsNext (is_to grantee kind revocation.table) asked from found → IsNextNamed revocation grantee kind view from found
    named_by_slots None none = record { there = tt; passed = λ k grant low before. skipped k grant (none k low) }
    named_by_slots (Some i) some = record {
      there = (some.0, found_within view asked are (is_to grantee kind revocation.table) i some.1);
      passed = λ k grant low before. skipped k grant (some.2 k low before);
    }

-- where one slot alone has a grant in force, it is that of each grant that is named
pub named_only : (view : View) (revocation : Revocation) (grantee : Grantee) (kind : Kind) (slot : ℕ) → IsOnlySlot revocation grantee kind view slot → (j : ℕ) (grant : Grant)
    → concerned (slot_at view j) revocation ≡ Some grant → grant.grantee ≡ grantee → grant.kind ≡ kind → names revocation grant ≡ true → j ≡ slot
named_only view revocation grantee kind slot only j grant is to same named =
    by_cases (j == slot)
    (λ one. eqb-true j slot one)
    (λ apart.
    let other : j ≢ slot = λ one. true≢false (sym (eq-eqb j slot one) ∙ apart) in
    absurd (named-skipped view revocation grantee kind j grant (closed_but revocation grantee kind false view slot only j other) is to same named))
