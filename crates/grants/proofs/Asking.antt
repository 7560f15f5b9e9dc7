-- What is kept of the options that users lost.
use Rattle.std.proofs.Common.{◌≡◌, ℕ, zero, suc, ◌<◌, ◌&&◌, ◌||◌, not, true, false, cond, eqb, ltb, List, Option, Some, None, refl, sym, ◌∙◌, ap, arith, subst, inl, inr, eq-eqb, length, replicate}
use Rattle.std.specs.Prelude.{◌==◌, ◌≢◌, nat_lt, slice_index_or, slice_set, unwrap_or}
use Rattle.std.proofs.lemmas.Grind.{get_or-set_at}
use Rattle.std.proofs.lemmas.List.{get_or-set_other}
use Rattle.std.specs.BTreeMap.{BTreeMap, get, is_at}
use Rattle.std.specs.Ordering.{is_eq, nat_cmp, ordering_then}
use Rattle.std.specs.declared.cmp.Ordering.{Ordering}
use Rattle.std.specs.declared.cmp.Ordering.TheVariants.{Less, Equal, Greater}
use Rattle.std.proofs.lemmas.Bool.{and_parts, cases_lt, eqb-true, le-ltb, lt-ltb, or_parts, true≢false}
use Rattle.std.proofs.lemmas.Bool.Decides.{nat_tests}
use Rattle.model_base.specs.declared.deed.Kind.{Kind}
use Rattle.model_base.specs.declared.deed.Revocation.{Revocation}
use Rattle.model_base.proofs.Replay.{by_cases}
use Rattle.grants_base.specs.Index.{is_one_of}
use Rattle.model_base.specs.Ranks.{kind_code}
use Rattle.grants_base.specs.View.{View, slot_at}
use Rattle.grants_base.proofs.Indexing.{code-same}
use Rattle.grants.specs.Pass.{keeps}
use Rattle.grants.specs.Work.{AllPassed, ArePassed, MayBe, bears, kind_holder_cmp, kind_holder_key, passed_slot, same_kind_holder, staying}
use Rattle.grants.specs.declared.lost_options.KindHolderKey.{KindHolderKey}
use Rattle.grants.specs.declared.lost_options.LostOptions.{LostOptions}
use Rattle.grants.specs.declared.lost_options.Passed.{Passed}
use Rattle.grants.proofs.Asked.{not_false}
use Rattle.grants.proofs.Passing.{same_kind-true}
use Rattle.grants.proofs.Worklist.{keeps_by, keeps_none}

is_eq-nat_cmp : (x y : ℕ) → is_eq (nat_cmp x y) ≡ eqb x y
is_eq-nat_cmp x y =
    by_cases (ltb x y)
    (λ less. let other : eqb x y ≡ false = grind (arith, nat_tests) in rw (less, other) refl)
    (λ same. rw same (by_cases (eqb x y) (λ e. rw e refl) (λ e. rw e refl)))

is_eq-ordering_then : (o p : Ordering) → is_eq (ordering_then o p) ≡ (is_eq o && is_eq p)
is_eq-ordering_then Less p = refl
is_eq-ordering_then Equal p = refl
is_eq-ordering_then Greater p = refl

-- the order of users with kinds finds those that are the same
pub at_holder : (a b : KindHolderKey) → is_at (kind_holder_cmp a) b ≡ same_kind_holder a b
at_holder a b =
    is_eq-ordering_then (nat_cmp a.user b.user) (nat_cmp a.kind b.kind)
    ∙ ap (λ e. e && is_eq (nat_cmp a.kind b.kind)) (is_eq-nat_cmp a.user b.user)
    ∙ ap (λ e. eqb a.user b.user && e) (is_eq-nat_cmp a.kind b.kind)

-- which are of one user and one kind
same_user : (user other : ℕ) (kind of : Kind) → same_kind_holder (kind_holder_key user kind) (kind_holder_key other of) ≡ true → user ≡ other
same_user user other kind of same = eqb-true user other (and_parts (user == other) (kind_code kind == kind_code of) same).0

one_kind : (user other : ℕ) (kind of : Kind) → same_kind_holder (kind_holder_key user kind) (kind_holder_key other of) ≡ true → kind ≡ of
one_kind user other kind of same =
    sym (same_kind-true of kind (sym (code-same kind of) ∙ (and_parts (user == other) (kind_code kind == kind_code of) same).1))

same_key : (user other : ℕ) (kind of : Kind) → kind_holder_key user kind ≡ kind_holder_key other of → same_kind_holder (kind_holder_key user kind) (kind_holder_key other of) ≡ true
same_key user other kind of same =
    subst (λ (key : KindHolderKey). same_kind_holder (kind_holder_key user kind) key ≡ true) same
    (rw (eq-eqb user user refl, eq-eqb (kind_code kind) (kind_code kind) refl) refl)

abbrev no_passed : Option Passed
no_passed = None

none_in : (n i : ℕ) → slice_index_or (replicate n no_passed) i no_passed ≡ no_passed
none_in zero i = refl
none_in (suc n) zero = refl
none_in (suc n) (suc i) = none_in n i

abbrev OthersPassed : Revocation → View → List ℕ → BTreeMap KindHolderKey ℕ → Type 0
OthersPassed revocation view ended others =
    (user slot : ℕ) (kind : Kind) → get kind_holder_cmp others (kind_holder_key user kind) ≡ Some slot → ArePassed revocation view ended user kind slot

abbrev FewPassed : Revocation → View → List ℕ → List (Option Passed) → Type 0
FewPassed revocation view ended few =
    (i : ℕ) (passed : Passed) → slice_index_or few i None ≡ Some passed → (user : ℕ) (kind : Kind)
    → passed.key ≡ kind_holder_key user kind → ArePassed revocation view ended user kind passed.slot

module _ (revocation : Revocation) (view : View) where
  -- what is put there for one user and kind
  module _ (ended : List ℕ) (user slot : ℕ) (kind : Kind) (here : ArePassed revocation view ended user kind slot) where
    passed_same : (other s : ℕ) (of : Kind) → same_kind_holder (kind_holder_key user kind) (kind_holder_key other of) ≡ true → Some slot ≡ Some s
        → ArePassed revocation view ended other of s
    passed_same other s of same found =
        let at : slot ≡ s = cc in
        subst (λ k. ArePassed revocation view ended other k s) (one_kind user other kind of same)
        (subst (λ v. ArePassed revocation view ended v kind s) (same_user user other kind of same)
        (subst (ArePassed revocation view ended user kind) at here))

  put_for : (ended : List ℕ) (old now : BTreeMap KindHolderKey ℕ) (user slot : ℕ) (kind : Kind)
      → ((q : KindHolderKey) → get kind_holder_cmp now q ≡ cond (is_at (kind_holder_cmp (kind_holder_key user kind)) q) (Some slot) (get kind_holder_cmp old q))
      → ArePassed revocation view ended user kind slot → OthersPassed revocation view ended old → OthersPassed revocation view ended now
  put_for ended old now user slot kind updates here passed = λ other s of is.
      let told : get kind_holder_cmp now (kind_holder_key other of)
      ≡ cond (same_kind_holder (kind_holder_key user kind) (kind_holder_key other of)) (Some slot) (get kind_holder_cmp old (kind_holder_key other of)) =
      updates (kind_holder_key other of) ∙ ap (λ b. cond b (Some slot) (get kind_holder_cmp old (kind_holder_key other of))) (at_holder (kind_holder_key user kind) (kind_holder_key other of)) in
      by_cases (same_kind_holder (kind_holder_key user kind) (kind_holder_key other of))
      (λ same.
      let one : Some slot ≡ Some s = sym (told ∙ ap (λ b. cond b (Some slot) (get kind_holder_cmp old (kind_holder_key other of))) same) ∙ is in
      passed_same ended user slot kind here other s of same one)
      (λ apart. passed other s of (sym (told ∙ ap (λ b. cond b (Some slot) (get kind_holder_cmp old (kind_holder_key other of))) apart) ∙ is))

  pub passed_put : (ended : List ℕ) (old now : BTreeMap KindHolderKey ℕ) (user slot : ℕ) (kind : Kind) (holder : KindHolderKey) → holder ≡ kind_holder_key user kind
      → ((q : KindHolderKey) → get kind_holder_cmp now q ≡ cond (is_at (kind_holder_cmp holder) q) (Some slot) (get kind_holder_cmp old q))
      → ArePassed revocation view ended user kind slot → OthersPassed revocation view ended old → OthersPassed revocation view ended now
  passed_put ended old now user slot kind holder of updates =
      put_for ended old now user slot kind
      (subst (λ (h : KindHolderKey). (q : KindHolderKey) → get kind_holder_cmp now q ≡ cond (is_at (kind_holder_cmp h) q) (Some slot) (get kind_holder_cmp old q)) of updates)

  pub few_put : (ended : List ℕ) (few : List (Option Passed)) (at user slot : ℕ) (kind : Kind) (key : KindHolderKey) → key ≡ kind_holder_key user kind → at < length few
      → ArePassed revocation view ended user kind slot → FewPassed revocation view ended few
      → FewPassed revocation view ended (slice_set few at (Some (record { key = key; slot = slot })))
  few_put ended few at user slot kind key of within here passed = λ i found is other kinds named.
      by_cases (i == at)
      (λ same.
      let now : Passed = record { key = key; slot = slot } in
      let there : Some now ≡ Some found = sym (get_or-set_at few at i (Some now) None (eqb-true i at same) within) ∙ is in
      let it : now ≡ found = cc in
      let keys : kind_holder_key user kind ≡ kind_holder_key other kinds = sym of ∙ ap (λ (p : Passed). p.key) it ∙ named in
      passed_same ended user slot kind here other found.slot kinds (same_key user other kind kinds keys) (ap (λ (p : Passed). Some p.slot) it))
      (λ apart.
      let other_slot : i ≢ at = λ one. true≢false (sym (eq-eqb i at one) ∙ apart) in
      passed i found (sym (get_or-set_other few at i (Some (record { key = key; slot = slot })) None other_slot) ∙ is) other kinds named)

  -- nothing is known at first
  pub none_passed : (ended : List ℕ) (n : ℕ) → FewPassed revocation view ended (replicate n no_passed)
  none_passed ended n = λ i found is. absurd (apart (sym (none_in n i) ∙ is))
    where
      apart : {found : Passed} → None ≡ Some found → ⊥
      apart same = cc

  -- what is known stays so when a slot ends
  pub passed_ended : (ended after : List ℕ) (slot : ℕ) (lost : LostOptions) → ((k : ℕ) → is_one_of after k ≡ ((slot == k) || is_one_of ended k))
      → AllPassed revocation view ended lost → AllPassed revocation view after lost
  passed_ended ended after slot lost more passed = record {
    few = λ i found is u kind key k less stays.
        passed.few i found is u kind key k less (or_parts (slot == k) (is_one_of ended k) (sym (more k) ∙ stays)).1;
    others = λ u s kind is k less stays.
        passed.others u s kind is k less (or_parts (slot == k) (is_one_of ended k) (sym (more k) ∙ stays)).1;
  }

  pub passed_start : (ended : List ℕ) (others : BTreeMap KindHolderKey ℕ) (user : ℕ) (kind : Kind) → OthersPassed revocation view ended others
      → ArePassed revocation view ended user kind (unwrap_or (get kind_holder_cmp others (kind_holder_key user kind)) 0)
  passed_start ended others user kind passed = by_found (get kind_holder_cmp others (kind_holder_key user kind)) refl
    where
      by_found : (found : Option ℕ) → get kind_holder_cmp others (kind_holder_key user kind) ≡ found → ArePassed revocation view ended user kind (unwrap_or found 0)
      by_found None is = λ k less stays. absurd (omega arith)
      by_found (Some slot) is = passed user slot kind is

  pub passed_few : (ended : List ℕ) (few : List (Option Passed)) (at user : ℕ) (kind : Kind) → FewPassed revocation view ended few → MayBe (kind_holder_key user kind) (slice_index_or few at None)
      → ArePassed revocation view ended user kind (passed_slot (slice_index_or few at None))
  passed_few ended few at user kind passed may = by_found (slice_index_or few at None) refl may
    where
      by_found : (found : Option Passed) → slice_index_or few at None ≡ found → MayBe (kind_holder_key user kind) found → ArePassed revocation view ended user kind (passed_slot found)
      by_found None is named = λ k less stays. absurd (omega arith)
      by_found (Some found) is named = passed at found is user kind named

  -- the first slot that gives the option says whether it is kept
  pub kept_by_first : (ended : List ℕ) (user first below : ℕ) (kind : Kind) → ArePassed revocation view ended user kind first
      → (first < below → (bears revocation user kind (slot_at view first) && not (is_one_of ended first)) ≡ true)
      → nat_lt first below ≡ keeps (staying revocation view ended below) user kind
  kept_by_first ended user first below kind passed found =
      elim (cases_lt first below) [
        | inl less ↦
            let parts = and_parts (bears revocation user kind (slot_at view first)) (not (is_one_of ended first)) (found less) in
            lt-ltb first below less ∙ sym (keeps_by revocation view ended below first user kind less (not_false (is_one_of ended first) parts.1) parts.0)
        | inr more ↦ le-ltb first below more ∙ sym (keeps_none revocation view ended below user kind (λ k less. passed k (omega arith)))
      ]
