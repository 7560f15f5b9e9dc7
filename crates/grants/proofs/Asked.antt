-- What isn't found among the grants that the slots ask for isn't in the slots.
use Rattle.std.proofs.Common.{◌≡◌, ℕ, zero, suc, ◌<◌, ◌≤◌, ◌∷◌, [], length, arith, ◌||◌, ◌&&◌, not, Bool, true, false, List, Option, Some, None, is_none, refl, sym, ◌∙◌, ap, eq-eqb, inl, inr}
use Rattle.std.specs.Prelude.{◌==◌, ◌⊎◌, ◌+◌, if◌then◌else◌, slice_get}
use Rattle.std.specs.Option.{option_map_or}
use Rattle.std.proofs.lemmas.Bool.{true≢false, and_parts, cases_lt}
use Rattle.model_base.specs.declared.deed.Grant.{Grant}
use Rattle.model_base.specs.declared.deed.Grantee.{Grantee}
use Rattle.model_base.specs.declared.deed.Grantee.TheVariants.{User}
use Rattle.model_base.specs.declared.deed.Kind.{Kind}
use Rattle.model_base.specs.declared.deed.Record.{Record}
use Rattle.model_base.specs.declared.deed.Revocation.{Revocation}
use Rattle.model_base.specs.Privileges.{concerns, has_grantee, has_kind, names, option_holder, same_grantee, user_of}
use Rattle.model_base.proofs.Reaching.{grantee-same, holder_is}
use Rattle.model_base.proofs.Replay.{by_cases}
use Rattle.grants_base.specs.Force.{gives_to}
use Rattle.grants_base.specs.View.{View, flatten, grant_in, slot_at}
use Rattle.grants.specs.Pass.{concerned}
use Rattle.grants_base.specs.Index.{is_one_of}
use Rattle.grants.specs.Work.{bears, has_in_force}
use Rattle.grants_base.specs.Index.{AreAsked, is_about, is_by, is_to, passes_at}
use Rattle.grants.proofs.Passing.{same_kind-same}
use Rattle.grants.proofs.SlotLaws.{about_concerned}
use Rattle.grants.proofs.Worklist.{borne_by}

pub same-grantee : (a b : Grantee) → a ≡ b → same_grantee a b ≡ true
same-grantee a b is = ap (same_grantee a) (sym is) ∙ grantee-same a

in_slot : (slot : Option Record) (revocation : Revocation) (grant : Grant) → concerned slot revocation ≡ Some grant → grant_in slot ≡ Some grant
in_slot None revocation grant is = absurd (cc)
in_slot (Some entry) revocation grant is =
    by_cases (is_none entry.end && concerns revocation entry.grant)
    (λ passes. rw passes at is)
    (λ fails. let none = rw fails at is in absurd (cc))

-- a concerned grant is of its kind on the revocation's table
pub about_kind : (revocation : Revocation) (grant : Grant) (kind : Kind) → concerns revocation grant ≡ true → grant.kind ≡ kind
    → is_about kind revocation.table grant ≡ true
about_kind revocation grant kind about same =
    rw (same, same_kind-same kind) (and_parts (has_kind revocation.kinds grant.kind) (revocation.table == grant.table) about).1

module _ (view : View) (asked : List Grant) (are : AreAsked view asked) (revocation : Revocation) where
  -- the slot asks for the grant that it has
  asks : (passes : Grant → Bool) (k : ℕ) (grant : Grant) → concerned (slot_at view k) revocation ≡ Some grant → passes_at passes asked k ≡ passes grant
  asks passes k grant is = ap (λ found. option_map_or passes found false) (are.each k grant (in_slot (slot_at view k) revocation grant is))

  -- a slot that isn't found has no such grant
  pub candidate-skipped : (grantee : Grantee) (kind : Kind) (option : Bool) (k : ℕ) → passes_at (is_to grantee kind revocation.table) asked k ≡ false
      → has_in_force revocation grantee kind option (slot_at view k) ≡ false
  candidate-skipped grantee kind option k skipped = by_found (concerned (slot_at view k) revocation) refl
    where
      by_found : (found : Option Grant) → concerned (slot_at view k) revocation ≡ found
          → option_map_or (gives_to grantee kind revocation.table option) found false ≡ false
      by_found None is = refl
      by_found (Some grant) is =
          ap (λ b. b && (grant.option || not option)) (sym (asks (is_to grantee kind revocation.table) k grant is) ∙ skipped)

  -- nor is it by the user
  pub by-skipped : (user : ℕ) (kind : Kind) (k : ℕ) (grant : Grant) → passes_at (is_by user kind revocation.table) asked k ≡ false
      → concerned (slot_at view k) revocation ≡ Some grant → grant.grantor ≡ user → grant.kind ≡ kind → ⊥
  by-skipped user kind k grant skipped is by same =
      let about = about_kind revocation grant kind (about_concerned (slot_at view k) revocation grant is) same in
      let found : is_by user kind revocation.table grant ≡ true = rw (eq-eqb grant.grantor user by) about in
      true≢false (sym found ∙ sym (asks (is_by user kind revocation.table) k grant is) ∙ skipped)

-- a grant that gives the option is with it
option_true : (grant : Grant) (user : ℕ) → option_holder grant ≡ Some user → grant.option ≡ true
option_true grant user is = by_option grant.option is
  where
    by_option : (option : Bool) → (if option then user_of grant.grantee else None) ≡ Some user → option ≡ true
    by_option true same = refl
    by_option false same = absurd (cc)

module _ (view : View) (revocation : Revocation) where
  -- a slot without a grant in force to the user that has the option gives the user nothing
  pub bears-skipped : (user : ℕ) (kind : Kind) (k : ℕ) → has_in_force revocation (User user) kind true (slot_at view k) ≡ false
      → bears revocation user kind (slot_at view k) ≡ false
  bears-skipped user kind k skipped =
      by_cases (bears revocation user kind (slot_at view k))
      (λ bear.
      let by = borne_by revocation (slot_at view k) user kind bear in
      let about = about_kind revocation by.0 kind (about_concerned (slot_at view k) revocation by.0 by.1) by.3 in
      let to : same_grantee by.0.grantee (User user) ≡ true = ap (λ g. same_grantee g (User user)) (holder_is by.0 user by.2) ∙ eq-eqb user user refl in
      let found : gives_to (User user) kind revocation.table true by.0 ≡ true = rw (to, about, option_true by.0 user by.2) refl in
      absurd (true≢false (sym found ∙ sym (ap (λ o. option_map_or (gives_to (User user) kind revocation.table true) o false) by.1) ∙ skipped)))
      (λ none. none)

  -- nor is a grant to a grantee named where none is to it
  pub named-skipped : (grantee : Grantee) (kind : Kind) (k : ℕ) (grant : Grant) → has_in_force revocation grantee kind false (slot_at view k) ≡ false
      → concerned (slot_at view k) revocation ≡ Some grant → grant.grantee ≡ grantee → grant.kind ≡ kind → names revocation grant ≡ true → ⊥
  unfolding names
  named-skipped grantee kind k grant skipped is to same named =
      let by = and_parts (revocation.grantor == grant.grantor) (has_grantee revocation.grantees grant.grantee && concerns revocation grant) named in
      let parts = and_parts (has_grantee revocation.grantees grant.grantee) (concerns revocation grant) by.1 in
      let about = about_kind revocation grant kind parts.1 same in
      let found : gives_to grantee kind revocation.table false grant ≡ true = rw (same-grantee grant.grantee grantee to, about) (or-true grant.option) in
      true≢false (sym found ∙ sym (ap (λ o. option_map_or (gives_to grantee kind revocation.table false) o false) is) ∙ skipped)
    where
      or-true : (a : Bool) → (a || true) ≡ true
      or-true true = refl
      or-true false = refl

  -- up to the slot found, nothing that hasn't ended gives the user the option
  pub none_until : (ended : List ℕ) (user : ℕ) (kind : Kind) (from i : ℕ)
      → ((k : ℕ) → k < from → is_one_of ended k ≡ false → bears revocation user kind (slot_at view k) ≡ false)
      → ((k : ℕ) → from ≤ k → k < i → has_in_force revocation (User user) kind true (slot_at view k) ≡ false)
      → (k : ℕ) → k < i → is_one_of ended k ≡ false → bears revocation user kind (slot_at view k) ≡ false
  none_until ended user kind from i before skipped k less stays =
      elim (cases_lt k from) [
        | inl earlier ↦ before k earlier stays
        | inr later ↦ bears-skipped user kind k (skipped k later less)
      ]

pub not_false : (b : Bool) → not b ≡ true → b ≡ false
not_false true is = absurd (true≢false (sym is))
not_false false is = refl

pub stood : (a b : Bool) → (a && not b) ≡ false → b ≡ false → a ≡ false
stood false b none is = refl
stood true true none is = absurd (true≢false is)
stood true false none is = none

-- a slot that is found is there
pub found_within : (view : View) (asked : List Grant) → AreAsked view asked → (passes : Grant → Bool) (k : ℕ) → passes_at passes asked k ≡ true → k < length view.slots
found_within view asked are passes k found =
    elim (cases_lt k (length asked)) [
      | inl within ↦ omega (arith, are.long)
      | inr over ↦ absurd (true≢false (sym found ∙ ap (λ o. option_map_or passes o false) (past asked k over)))
    ]
  where
    past : (gs : List Grant) (i : ℕ) → length gs ≤ i → slice_get gs i ≡ None
    past [] i over = refl
    past (x ∷ gs) zero over = absurd (omega arith)
    past (x ∷ gs) (suc i) over = past gs i (omega arith)

pub or_first : (x y : Bool) → x ≡ true → (x || y) ≡ true
or_first true y is = refl
or_first false y is = absurd (true≢false (sym is))

-- past the slots there is no grant
pub nothing_past : (view : View) (revocation : Revocation) (k : ℕ) (grant : Grant) → length view.slots ≤ k → concerned (slot_at view k) revocation ≡ Some grant → ⊥
nothing_past view revocation k grant over is = absurd (none (sym empty ∙ is))
  where
    past : (slots : List (Option Record)) (i : ℕ) → length slots ≤ i → slice_get slots i ≡ None
    past [] i over = refl
    past (x ∷ slots) zero over = absurd (omega arith)
    past (x ∷ slots) (suc i) over = past slots i (omega arith)

    empty : concerned (slot_at view k) revocation ≡ None
    empty = ap (λ (slot : Option (Option Record)). concerned (flatten slot) revocation) (past view.slots k over)

    none : None ≡ Some grant → ⊥
    none e = cc

-- one slot more among those that are looked at for a name
pub record HaveNamed (view : View) (revocation : Revocation) (grantee : Grantee) (kind : Kind) (first due : List ℕ) (from : ℕ) : Type 0 where
  pub found : (j : ℕ) (grant : Grant) → j < from → concerned (slot_at view j) revocation ≡ Some grant
      → grant.grantee ≡ grantee → grant.kind ≡ kind → names revocation grant ≡ true → is_one_of due j ≡ true
  pub kept : (j : ℕ) → is_one_of first j ≡ true → is_one_of due j ≡ true
  pub within : (j : ℕ) → is_one_of due j ≡ true → (is_one_of first j ≡ true) ⊎ (j < length view.slots)

pub named_step : (view : View) (revocation : Revocation) (grantee : Grantee) (kind : Kind) (first due more : List ℕ) (from i : ℕ)
    → i < length view.slots
    → ((k : ℕ) (grant : Grant) → from ≤ k → k < i → concerned (slot_at view k) revocation ≡ Some grant → grant.grantee ≡ grantee → grant.kind ≡ kind → names revocation grant ≡ true → ⊥)
    → HaveNamed view revocation grantee kind first due from
    → ((j : ℕ) → is_one_of due j ≡ true → is_one_of more j ≡ true)
    → (option_map_or (names revocation) (concerned (slot_at view i) revocation) false ≡ true → is_one_of more i ≡ true)
    → ((j : ℕ) → is_one_of more j ≡ true → (is_one_of due j ≡ true) ⊎ (i ≡ j))
    → HaveNamed view revocation grantee kind first more (i + 1)
named_step view revocation grantee kind first due more from i there skipped so_far kept new old = record {
  found = λ j grant less is to same named.
      elim (cases_lt j i) [
        | inl earlier ↦ elim (cases_lt j from) [
          | inl before ↦ kept j (so_far.found j grant before is to same named)
          | inr after ↦ absurd (skipped j grant after earlier is to same named)
        ]
        | inr later ↦
            let here : j ≡ i = omega arith in
            let at_i : concerned (slot_at view i) revocation ≡ Some grant = ap (λ k. concerned (slot_at view k) revocation) (sym here) ∙ is in
            ap (is_one_of more) here ∙ new (ap (λ found. option_map_or (names revocation) found false) at_i ∙ named)
      ];
  kept = λ j is. kept j (so_far.kept j is);
  within = λ j is.
      elim (old j is) [
        | inl before ↦ so_far.within j before
        | inr here ↦ inr (omega (arith, there))
      ];
}
