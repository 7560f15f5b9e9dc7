-- The slots that are due are all that the recursive revocation has to judge.
use Rattle.std.proofs.Common.{◌≡◌, Bool, ℕ, zero, suc, ◌<◌, ◌≤◌, ◌+◌, ◌||◌, true, false, List, [], ◌∷◌, ◌++◌, Option, Some, None, length, drop, add-one, refl, sym, ◌∙◌, ap, arith, inl, inr, eq-eqb, append_assoc}
use Rattle.std.specs.Prelude.{◌==◌, ◌⊎◌, All}
use Rattle.std.specs.Option.{option_map_or}
use Rattle.std.proofs.lemmas.Bool.{true≢false, and_parts, or_cases, or_right, cases_lt, eqb-true, ne_eqb}
use Rattle.model_base.specs.declared.deed.Grant.{Grant}
use Rattle.model_base.specs.declared.deed.Kind.{Kind}
use Rattle.model_base.specs.declared.deed.Record.{Record}
use Rattle.model_base.specs.declared.deed.Revocation.{Revocation}
use Rattle.model_base.specs.Ranks.{rank}
use Rattle.model_base.specs.Privileges.{lends_to, names, option_holder, same_kind}
use Rattle.model_base.proofs.Reaching.{lends_is}
use Rattle.model_base.proofs.Replay.{by_cases}
use Rattle.grants_base.specs.View.{View, slot_at}
use Rattle.grants.specs.Pass.{cascade, concerned, concerned_grants, keeps, lends_of_kind, outlasts}
use Rattle.grants_base.specs.Index.{is_one_of}
use Rattle.grants_base.specs.SlotSet.{HasGained}
use Rattle.grants_base.proofs.SlotSetLaws.{above_one}
use Rattle.grants.specs.Work.{AreBorne, AreDue, IsStillBorne, bears, staying, staying_after}
use Rattle.grants.proofs.Passing.{same_kind-true}
use Rattle.grants.proofs.SlotLaws.{about_concerned, step_on, step_over}

or_one : (a b : Bool) → a ≡ true → (a || b) ≡ true
or_one true b is = refl
or_one false b is = absurd (true≢false (sym is))

or_none : (a b : Bool) → a ≡ false → b ≡ false → (a || b) ≡ false
or_none true b is none = absurd (true≢false is)
or_none false b is none = none

-- a user who has the option keeps it
after-keep : (h : List Grant) (found : Option Grant) (user : ℕ) (kind : Kind) → keeps h user kind ≡ true → keeps (staying_after h found) user kind ≡ true
after-keep h None user kind has = has
after-keep h (Some grant) user kind has = or_right (lends_of_kind user kind grant) (keeps h user kind) has

-- one to whom a slot gives it has it
after-bear : (h : List Grant) (found : Option Grant) (user : ℕ) (kind : Kind) → option_map_or (λ (grant : Grant). lends_of_kind user kind grant) found false ≡ true
    → keeps (staying_after h found) user kind ≡ true
after-bear h None user kind bear = absurd (true≢false (sym bear))
after-bear h (Some grant) user kind bear = or_one (lends_of_kind user kind grant) (keeps h user kind) bear

-- nobody else gets it
after-none : (h : List Grant) (found : Option Grant) (user : ℕ) (kind : Kind) → keeps h user kind ≡ false
    → option_map_or (λ (grant : Grant). lends_of_kind user kind grant) found false ≡ false → keeps (staying_after h found) user kind ≡ false
after-none h None user kind none bear = none
after-none h (Some grant) user kind none bear = or_none (lends_of_kind user kind grant) (keeps h user kind) bear none

-- a grant in force gives the option
pub borne_by : (revocation : Revocation) (slot : Option Record) (user : ℕ) (kind : Kind) → bears revocation user kind slot ≡ true
    → (grant : Grant) × (concerned slot revocation ≡ Some grant) × (option_holder grant ≡ Some user) × (grant.kind ≡ kind)
borne_by revocation slot user kind bear = by_found (concerned slot revocation) refl bear
  where
    by_found : (found : Option Grant) → concerned slot revocation ≡ found → option_map_or (λ (grant : Grant). lends_of_kind user kind grant) found false ≡ true
        → (grant : Grant) × (concerned slot revocation ≡ Some grant) × (option_holder grant ≡ Some user) × (grant.kind ≡ kind)
    by_found None is some = absurd (true≢false (sym some))
    by_found (Some grant) is some =
        let parts = and_parts (same_kind kind grant.kind) (lends_to grant user) some in
        (grant, is, lends_is grant user parts.1, sym (same_kind-true kind grant.kind parts.0))

module _ (revocation : Revocation) (view : View) where
  -- whom a slot that hasn't ended gives the option keeps it
  pub keeps_by : (ended : List ℕ) (p k user : ℕ) (kind : Kind) → k < p → is_one_of ended k ≡ false → bears revocation user kind (slot_at view k) ≡ true
      → keeps (staying revocation view ended p) user kind ≡ true
  keeps_by ended zero k user kind less stays bear = absurd (omega arith)
  keeps_by ended (suc p) k user kind less stays bear =
      elim (cases_lt k p) [
        | inl earlier ↦
            let before = keeps_by ended p k user kind earlier stays bear in
            by_cases (is_one_of ended p) (λ gone. rw gone before)
            (λ here. rw here (after-keep (staying revocation view ended p) (concerned (slot_at view p) revocation) user kind before))
        | inr later ↦
            let same : k ≡ p = omega arith in
            let here : is_one_of ended p ≡ false = ap (is_one_of ended) (sym same) ∙ stays in
            let bear_here : bears revocation user kind (slot_at view p) ≡ true = ap (λ i. bears revocation user kind (slot_at view i)) (sym same) ∙ bear in
            rw here (after-bear (staying revocation view ended p) (concerned (slot_at view p) revocation) user kind bear_here)
      ]

  pub keeps_none : (ended : List ℕ) (p user : ℕ) (kind : Kind) → ((k : ℕ) → k < p → is_one_of ended k ≡ false → bears revocation user kind (slot_at view k) ≡ false)
      → keeps (staying revocation view ended p) user kind ≡ false
  keeps_none ended zero user kind none = refl
  keeps_none ended (suc p) user kind none =
      let before = keeps_none ended p user kind (λ k less. none k (omega arith)) in
      by_cases (is_one_of ended p) (λ gone. rw gone before)
      (λ here. rw here (after-none (staying revocation view ended p) (concerned (slot_at view p) revocation) user kind before (none p (omega arith) here)))

  staying-agree : (first second : List ℕ) (p : ℕ) → ((k : ℕ) → k < p → is_one_of first k ≡ is_one_of second k)
      → staying revocation view first p ≡ staying revocation view second p
  staying-agree first second zero same = refl
  staying-agree first second (suc p) same =
      let before = staying-agree first second p (λ k less. same k (omega arith)) in
      by_cases (is_one_of second p)
      (λ gone. rw (same p (omega arith), gone) before)
      (λ here. rw (same p (omega arith), here) (ap (λ h. staying_after h (concerned (slot_at view p) revocation)) before))

  module _ (owner : ℕ) where
    abbrev pub rest_from : ℕ → List Grant
    rest_from p = concerned_grants revocation (drop p view.slots)

    -- what the pass ends from a slot on
    abbrev pub ends_from : List ℕ → ℕ → List ℕ
    ends_from ended p = cascade owner revocation (staying revocation view ended p) (rest_from p)

    -- a slot that has nothing for it
    pub over_none : (ended : List ℕ) (p : ℕ) → p < length view.slots → concerned (slot_at view p) revocation ≡ None → ends_from ended (p + 1) ≡ ends_from ended p
    over_none ended p within none =
        ap (λ h. cascade owner revocation h (rest_from (p + 1))) same
        ∙ ap (cascade owner revocation (staying revocation view ended p)) (step_over owner revocation view p within none)
      where
        same : staying revocation view ended (p + 1) ≡ staying revocation view ended p
        same = rw (add-one p) (by_cases (is_one_of ended p) (λ gone. rw gone refl) (λ here. rw (here, none) refl))

    -- a slot whose grant stays
    pub over_staying : (ended : List ℕ) (p : ℕ) (grant : Grant) → p < length view.slots → concerned (slot_at view p) revocation ≡ Some grant
        → is_one_of ended p ≡ false → outlasts owner (staying revocation view ended p) revocation grant ≡ true → ends_from ended (p + 1) ≡ ends_from ended p
    over_staying ended p grant within found unended stays =
        ap (λ h. cascade owner revocation h (rest_from (p + 1))) same
        ∙ passed
        ∙ ap (cascade owner revocation (staying revocation view ended p)) (step_on owner revocation view p within grant found)
      where
        same : staying revocation view ended (p + 1) ≡ grant ∷ staying revocation view ended p
        same = rw (add-one p, unended, found) refl

        passed : cascade owner revocation (grant ∷ staying revocation view ended p) (rest_from (p + 1))
            ≡ cascade owner revocation (staying revocation view ended p) (grant ∷ rest_from (p + 1))
        passed = rw (about_concerned (slot_at view p) revocation grant found, stays) refl

    -- a slot whose grant ends
    pub over_ending : (ended after : List ℕ) (p : ℕ) (grant : Grant) → p < length view.slots → concerned (slot_at view p) revocation ≡ Some grant
        → ((k : ℕ) → is_one_of after k ≡ ((p == k) || is_one_of ended k)) → outlasts owner (staying revocation view ended p) revocation grant ≡ false
        → rank grant ∷ ends_from after (p + 1) ≡ ends_from ended p
    over_ending ended after p grant within found more falls =
        ap (λ h. rank grant ∷ cascade owner revocation h (rest_from (p + 1))) same
        ∙ passed
        ∙ ap (cascade owner revocation (staying revocation view ended p)) (step_on owner revocation view p within grant found)
      where
        gone : is_one_of after p ≡ true
        gone = more p ∙ rw (eq-eqb p p refl) refl

        below : (k : ℕ) → k < p → is_one_of after k ≡ is_one_of ended k
        below k less = more k ∙ rw (ne_eqb p k (λ same. omega arith)) refl

        same : staying revocation view after (p + 1) ≡ staying revocation view ended p
        same = rw (add-one p, gone) (staying-agree after ended p below)

        passed : rank grant ∷ cascade owner revocation (staying revocation view ended p) (rest_from (p + 1))
            ≡ cascade owner revocation (staying revocation view ended p) (grant ∷ rest_from (p + 1))
        passed = rw (about_concerned (slot_at view p) revocation grant found, falls) refl

    pub whole_ending : (ranks now ended after : List ℕ) (p next : ℕ) (grant : Grant) → next ≡ p + 1 → p < length view.slots → now ≡ ranks ++ rank grant ∷ []
        → concerned (slot_at view p) revocation ≡ Some grant → ((k : ℕ) → is_one_of after k ≡ ((p == k) || is_one_of ended k))
        → outlasts owner (staying revocation view ended p) revocation grant ≡ false → now ++ ends_from after next ≡ ranks ++ ends_from ended p
    whole_ending ranks now ended after p next grant is_next within items found more falls =
        ap (λ n. now ++ ends_from after n) is_next
        ∙ ap (λ (xs : List ℕ). xs ++ ends_from after (p + 1)) items
        ∙ append_assoc ranks (rank grant ∷ []) (ends_from after (p + 1))
        ∙ ap (λ rest. ranks ++ rest) (over_ending ended after p grant within found more falls)

    module _ (borne : AreBorne owner revocation view) (due ended : List ℕ) (next : ℕ) (state : AreDue revocation view due ended next) where
      -- what isn't due stays
      not_due : (p : ℕ) (grant : Grant) → next ≤ p → is_one_of due p ≡ false → concerned (slot_at view p) revocation ≡ Some grant
          → outlasts owner (staying revocation view ended p) revocation grant ≡ true
      unfolding outlasts
      not_due p grant from free found =
          elim (borne.each p grant found) [
            | inl own ↦ rw (unnamed, own) refl
            | inr by ↦ rw (unnamed, kept by.0 by.1 by.2) (or_right (owner == grant.grantor) true refl)
          ]
        where
          unnamed : names revocation grant ≡ false
          unnamed = by_cases (names revocation grant) (λ named. absurd (true≢false (sym (state.named p grant from found named) ∙ free))) (λ not_named. not_named)

          -- whom a slot below gave the option keeps it, by that slot or by another
          kept : (k : ℕ) → k < p → bears revocation grant.grantor grant.kind (slot_at view k) ≡ true
              → keeps (staying revocation view ended p) grant.grantor grant.kind ≡ true
          kept k less bear =
              by_cases (is_one_of ended k)
              (λ gone.
              let by = borne_by revocation (slot_at view k) grant.grantor grant.kind bear in
              elim (state.lost k p by.0 grant gone by.1 by.2 by.3 from found) [
                | inl is ↦ absurd (true≢false (sym is ∙ free))
                | inr still ↦ keeps_by ended p still.0 grant.grantor grant.kind still.1 still.2 still.3
              ])
              (λ here. keeps_by ended p k grant.grantor grant.kind less here bear)

      over_one : (p : ℕ) → next ≤ p → p < length view.slots → is_one_of due p ≡ false → ends_from ended (p + 1) ≡ ends_from ended p
      over_one p from within free = by_found (concerned (slot_at view p) revocation) refl
        where
          unended : is_one_of ended p ≡ false
          unended = by_cases (is_one_of ended p) (λ gone. let less = state.behind p gone in absurd (omega arith)) (λ here. here)

          by_found : (found : Option Grant) → concerned (slot_at view p) revocation ≡ found → ends_from ended (p + 1) ≡ ends_from ended p
          by_found None is = over_none ended p within is
          by_found (Some grant) is = over_staying ended p grant within is unended (not_due p grant from free is)

      -- so the pass goes on at the first that is due
      pub over_free : (gap p i : ℕ) → p + gap ≡ i → next ≤ p → i ≤ length view.slots → ((j : ℕ) → next ≤ j → j < i → is_one_of due j ≡ false)
          → ends_from ended i ≡ ends_from ended p
      over_free zero p i is from within free = let same : i ≡ p = omega arith in ap (ends_from ended) same
      over_free (suc gap) p i is from within free =
          over_free gap (p + 1) i (omega arith) (omega arith) within free
          ∙ over_one p from (omega arith) (free p from (omega arith))

-- the slots of a set that has one more
pub slot_more : (before after : List ℕ) (slot : ℕ) → HasGained slot before after → (k : ℕ) → is_one_of after k ≡ ((slot == k) || is_one_of before k)
slot_more before after slot gained k = gained k ∙ swapped (is_one_of before k) (slot == k)
  where
    swapped : (has here : Bool) → (has || here) ≡ (here || has)
    swapped true true = refl
    swapped true false = refl
    swapped false true = refl
    swapped false false = refl

module _ (revocation : Revocation) (view : View) (slot : ℕ) where
  -- a slot that ends leaves those due that it has to
  pub due_more : (due more ended after : List ℕ) (grant : Grant) (next : ℕ) → slot < next → AreDue revocation view due ended next
      → concerned (slot_at view slot) revocation ≡ Some grant → ((k : ℕ) → is_one_of after k ≡ ((slot == k) || is_one_of ended k))
      → ((j : ℕ) → is_one_of due j ≡ true → is_one_of more j ≡ true)
      → ((j : ℕ) → is_one_of more j ≡ true → (is_one_of due j ≡ true) ⊎ ((next ≤ j) × (j < length view.slots)))
      → ((j : ℕ) (other : Grant) → option_holder grant ≡ Some other.grantor → grant.kind ≡ other.kind → next ≤ j
      → concerned (slot_at view j) revocation ≡ Some other
      → (is_one_of more j ≡ true) ⊎ IsStillBorne revocation view after other.grantor other.kind j)
      → AreDue revocation view more after next
  due_more due more ended after grant next ahead_of state found ends kept within later = record {
    named = λ j other from here named. kept j (state.named j other from here named);
    lost = λ e j gone other ended_e of heir kind from here.
        elim (or_cases (slot == e) (is_one_of ended e) (sym (ends e) ∙ ended_e)) [
          | inl now ↦
              let at_slot : slot ≡ e = eqb-true slot e now in
              let same : Some grant ≡ Some gone = sym found ∙ ap (λ i. concerned (slot_at view i) revocation) at_slot ∙ of in
              let one : grant ≡ gone = cc in
              later j other (ap option_holder one ∙ heir) (ap (λ (g : Grant). g.kind) one ∙ kind) from here
          | inr before ↦ elim (state.lost e j gone other before of heir kind from here) [
            | inl is ↦ inl (kept j is)
            | inr by ↦ still j other from here by.0 by.1 by.2 by.3
          ]
        ];
    ahead = λ j is. elim (within j is) [ inl before ↦ state.ahead j before | inr new ↦ new ];
    behind = λ e is.
        elim (or_cases (slot == e) (is_one_of ended e) (sym (ends e) ∙ is)) [
          | inl now ↦ let at_slot : slot ≡ e = eqb-true slot e now in omega arith
          | inr before ↦ state.behind e before
        ];
  }
    where
      -- a slot by which a user kept the option stands yet, or is the one that ends
      still : (j : ℕ) (other : Grant) → next ≤ j → concerned (slot_at view j) revocation ≡ Some other → (k : ℕ) → k < j → is_one_of ended k ≡ false
          → bears revocation other.grantor other.kind (slot_at view k) ≡ true → (is_one_of more j ≡ true) ⊎ IsStillBorne revocation view after other.grantor other.kind j
      still j other from here k less stands bear =
          by_cases (slot == k)
          (λ now.
          let by = borne_by revocation (slot_at view k) other.grantor other.kind bear in
          let same : Some grant ≡ Some by.0 = sym found ∙ ap (λ i. concerned (slot_at view i) revocation) (eqb-true slot k now) ∙ by.1 in
          let one : grant ≡ by.0 = cc in
          later j other (ap option_holder one ∙ by.2) (ap (λ (g : Grant). g.kind) one ∙ by.3) from here)
          (λ apart. inr (k, less, ends k ∙ rw (apart, stands) refl, bear))

-- what isn't before has not ended
pub unended_at : (ended : List ℕ) (slot : ℕ) → ((e : ℕ) → is_one_of ended e ≡ true → e < slot) → is_one_of ended slot ≡ false
unended_at ended slot behind =
    by_cases (is_one_of ended slot) (λ gone. let less = behind slot gone in absurd (omega arith)) (λ here. here)

module _ (revocation : Revocation) (view : View) where
  -- at first those are due that are named
  pub due_first : (due ended : List ℕ) → ended ≡ []
      → ((j : ℕ) (grant : Grant) → concerned (slot_at view j) revocation ≡ Some grant → names revocation grant ≡ true → is_one_of due j ≡ true)
      → ((j : ℕ) → is_one_of due j ≡ true → j < length view.slots) → AreDue revocation view due ended 0
  due_first due ended none found within = record {
    named = λ j grant _ is named. found j grant is named;
    lost = λ e j gone grant ended_e of heir kind from is. absurd (true≢false (sym ended_e ∙ ap (λ es. is_one_of es e) none));
    ahead = λ j is. (omega arith, within j is);
    behind = λ e is. absurd (true≢false (sym is ∙ ap (λ es. is_one_of es e) none));
  }

  -- what the least of those that are due is, and what is due after it
  pub record IsFirstDue (due rest ended : List ℕ) (next slot : ℕ) : Type 0 where
    pub from : next ≤ slot
    pub within : slot < length view.slots
    pub behind : (e : ℕ) → is_one_of ended e ≡ true → e < slot
    pub free : (j : ℕ) → next ≤ j → j < slot → is_one_of due j ≡ false
    pub after : (later : ℕ) → later ≡ slot + 1 → AreDue revocation view rest ended later

  pub first_due : (due rest ended : List ℕ) (next slot : ℕ) → AreDue revocation view due ended next → due ≡ slot ∷ rest
      → All (λ other. slot < other) rest → IsFirstDue due rest ended next slot
  first_due due rest ended next slot state parts above = record {
    from = lies.0;
    within = lies.1;
    behind = λ e is. let less = state.behind e is in omega (arith, lies.0);
    free = λ j from less.
        by_cases (is_one_of due j)
        (λ is. elim (or_cases (slot == j) (is_one_of rest j) (sym (ap (λ ks. is_one_of ks j) parts) ∙ is)) [
          | inl here ↦ let same : slot ≡ j = eqb-true slot j here in absurd (omega arith)
          | inr later ↦ let more = above_one slot rest j above later in absurd (omega arith)
        ])
        (λ none. none);
    after = λ later later_is. record {
      named = λ j grant from is named. left j (omega arith) (state.named j grant (omega (arith, lies.0)) is named);
      lost = λ e j gone grant ended_e of heir kind from is.
          elim (state.lost e j gone grant ended_e of heir kind (omega (arith, lies.0)) is) [ inl was ↦ inl (left j (omega arith) was) | inr by ↦ inr by ];
      ahead = λ j is. let more = above_one slot rest j above is in (omega arith, (state.ahead j (ap (λ ks. is_one_of ks j) parts ∙ or_right (slot == j) (is_one_of rest j) is)).1);
      behind = λ e is. let less = state.behind e is in omega (arith, lies.0);
    };
  }
    where
      lies : (next ≤ slot) × (slot < length view.slots)
      lies = state.ahead slot (ap (λ ks. is_one_of ks slot) parts ∙ rw (eq-eqb slot slot refl) refl)

      left : (j : ℕ) → slot < j → is_one_of due j ≡ true → is_one_of rest j ≡ true
      left j more is =
          elim (or_cases (slot == j) (is_one_of rest j) (sym (ap (λ ks. is_one_of ks j) parts) ∙ is)) [
            | inl here ↦ let same : slot ≡ j = eqb-true slot j here in absurd (omega arith)
            | inr later ↦ later
          ]
