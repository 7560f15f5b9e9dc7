-- A grant that a revocation takes out of force is named by it, or was given the option by one that it takes out of force too.
use Rattle.std.proofs.Common.{◌≡◌, ◌<◌, ◌≤◌, ◌||◌, not, ℕ, zero, suc, Bool, true, false, Some, List, [], ◌∷◌, ◌++◌, length, filter, refl, sym, ◌∙◌, ap, subst, append_assoc, arith, inl, inr}
use Rattle.std.specs.Prelude.{◌==◌, ◌⊎◌, All, slice_get}
use Rattle.std.specs.List.{list_any}
use Rattle.std.proofs.lemmas.Bool.{and_from, and_parts, eq-eqb, not_from_false, not-true, or_cases, or_from, or_right, true≢false}
use Rattle.std.proofs.lemmas.List.{get_or-map}
use Rattle.std.proofs.lemmas.List.Elements.{All-cons, All-head, All-nil, All-push, All-tail, All-weaker}
use Rattle.std.proofs.lemmas.List.Folds.{list_any-append}
use Rattle.std.proofs.lemmas.Option.{get_or_from_slice_get, slice_get-get_or}
use Rattle.model_base.specs.declared.deed.Deed.{Deed}
use Rattle.model_base.specs.declared.deed.Deed.TheVariants.{Revoking}
use Rattle.model_base.specs.declared.deed.Grant.{Grant}
use Rattle.model_base.specs.declared.deed.Revocation.{Revocation}
use Rattle.model_base.specs.declared.deed.Need.{Need}
use Rattle.model_base.specs.Ranks.{rank}
use Rattle.model_base.specs.Privileges.{gives, has, is_among, kept, names, option_of, owns, place_of, replayed, erased}
use Rattle.model_base.specs.Laws.{IsRising}
use Rattle.model_base.specs.Records.{grants_of}
use Rattle.model_base.proofs.Replay.{by_cases, kept-revoke}
use Rattle.model_base.proofs.Parts.{part-all, part-beginning, part-filter, part-part, part-replayed}
use Rattle.model_base.proofs.Places.{IsRising-kept, among-append, among_all, none_above, none_below}
use Rattle.model_base.proofs.Records.{all_among, grants-append}
use Rattle.model_base.proofs.Recorded.{All-both, part-kept_grants, rising-grants}
use Rattle.model_base.proofs.Ends.{is_ended}
use Rattle.bohm_core_base.specs.Deeds.{is_made, made_before, named_before}
use Rattle.bohm_core_base.specs.Batch.{Batch, IsSoundBatch, batch_deeds, rank_at, batch_slots, was_done}
use Rattle.bohm_core_base.specs.Cascades.{EndsByCascade, FallsWith}
use Rattle.bohm_core_base.specs.Serial.{serial_ends, serial_words, batch_world_before}
use Rattle.bohm_core_base.proofs.Concerned.{Same, grant_here, kept-same}
use Rattle.bohm_core_base.proofs.Slots.{made-named, made-split, slots-rise}
use Rattle.bohm_core_base.proofs.Whole.{deeds-made, deeds-proper, no_grant, part-grants_filter, serial-at, serial-only, serial-placed, serial_deeds}

-- one of a list that passes a test, with what holds of all
passing : (P : Grant → Type 0) (test : Grant → Bool) (grants : List Grant) → All P grants → list_any test grants ≡ true
    → (grant : Grant) × P grant × (test grant ≡ true)
passing P test [] all some = absurd (true≢false (sym some))
passing P test (grant ∷ grants) all some =
    elim (or_cases (test grant) (list_any test grants) some) [
      | inl here ↦ (grant, All-head P grant grants all, here)
      | inr later ↦ passing P test grants (All-tail P grant grants all) later
    ]

-- one more passes the test too
any_more : (test : Grant → Bool) (grants : List Grant) (grant : Grant) → list_any test grants ≡ true → list_any test (grants ++ grant ∷ []) ≡ true
any_more test grants grant some = rw (list_any-append test grants (grant ∷ []), some) refl

-- and so does the last
any_last : (test : Grant → Bool) (grants : List Grant) (grant : Grant) → test grant ≡ true → list_any test (grants ++ grant ∷ []) ≡ true
any_last test grants grant passes =
    list_any-append test grants (grant ∷ []) ∙ or_right (list_any test grants) _ (rw passes refl)

has_parts : (owners : List ℕ) (grants : List Grant) (user : ℕ) (need : Need) → has owners grants user need ≡ true
    → (owns owners user need.table ≡ true) ⊎ (list_any (λ grant. gives grant user need) grants ≡ true)
unfolding has
has_parts owners grants user need holds = or_cases (owns owners user need.table) _ holds

has_owner : (owners : List ℕ) (grants : List Grant) (user : ℕ) (need : Need) → owns owners user need.table ≡ true → has owners grants user need ≡ true
unfolding has
has_owner owners grants user need is = rw is refl

has_given : (owners : List ℕ) (grants : List Grant) (user : ℕ) (need : Need) → list_any (λ grant. gives grant user need) grants ≡ true
    → has owners grants user need ≡ true
unfolding has
has_given owners grants user need some = or_right (owns owners user need.table) _ some

module _ (owners : List ℕ) (revocation : Revocation) where
  abbrev passes : Grant → Bool
  passes grant = not (names revocation grant)

  -- each grant's grantor has the option by those before it
  abbrev AreBorne : List Grant → List Grant → Type 0
  AreBorne before [] = Unit {0}
  AreBorne before (grant ∷ grants) =
      (has owners before grant.grantor (option_of grant) ≡ true) × AreBorne (before ++ grant ∷ []) grants

  borne-replayed : (before grants : List Grant) → AreBorne before (replayed owners before grants)
  borne-replayed before [] = tt
  borne-replayed before (grant ∷ grants) =
      by_cases (has owners before grant.grantor (option_of grant))
      (λ stands. rw stands (stands, borne-replayed (before ++ grant ∷ []) grants))
      (λ falls. rw falls (borne-replayed before grants))

  filter-named : (grant : Grant) (grants : List Grant) → names revocation grant ≡ true → filter passes (grant ∷ grants) ≡ filter passes grants
  filter-named grant grants named = rw named refl

  filter-other : (grant : Grant) (grants : List Grant) → names revocation grant ≡ false → filter passes (grant ∷ grants) ≡ grant ∷ filter passes grants
  filter-other grant grants other = rw other refl

  replayed-stands : (before : List Grant) (grant : Grant) (grants : List Grant) → has owners before grant.grantor (option_of grant) ≡ true
      → replayed owners before (grant ∷ grants) ≡ grant ∷ replayed owners (before ++ grant ∷ []) grants
  replayed-stands before grant grants stands = rw stands refl

  replayed-falls : (before : List Grant) (grant : Grant) (grants : List Grant) → has owners before grant.grantor (option_of grant) ≡ false
      → replayed owners before (grant ∷ grants) ≡ replayed owners before grants
  replayed-falls before grant grants falls = rw falls refl

  -- the grants in force afterwards, and what holds of those before
  module _ (Q : Grant → Type 0) (after : List Grant) where
    -- why a grant falls
    abbrev Cause : Grant → Type 0
    Cause grant =
        (names revocation grant ≡ true)
        ⊎ ((giver : Grant) × Q giver × (is_among (rank giver) after ≡ false) × (rank giver < rank grant) × (gives giver grant.grantor (option_of grant) ≡ true))

    abbrev IsBelow : List Grant → Grant → Type 0
    IsBelow grants grant = All (λ later. rank grant < rank later) grants

    -- a grant that was met stands, or has fallen
    abbrev Met : List Grant → List Grant → Grant → Type 0
    Met standing rest grant =
        Q grant × IsBelow rest grant
        × (((test : Grant → Bool) → test grant ≡ true → list_any test standing ≡ true) ⊎ (is_among (rank grant) after ≡ false))

    abbrev Fallen : Grant → Type 0
    Fallen grant = is_among (rank grant) after ≡ false → Cause grant

    met-same : (standing rest : List Grant) (grant first : Grant) → Met standing (first ∷ rest) grant → Met standing rest grant
    met-same standing rest grant first met = (met.0, All-tail (λ later. rank grant < rank later) first rest met.1, met.2)

    met-more : (standing rest : List Grant) (grant first : Grant) → Met standing (first ∷ rest) grant → Met (standing ++ first ∷ []) rest grant
    met-more standing rest grant first met = (
      met.0,
      All-tail (λ later. rank grant < rank later) first rest met.1,
      elim met.2 [
        | inl stands ↦ inl (λ test passes. any_more test standing first (stands test passes))
        | inr fell ↦ inr fell
      ],
    )

    out : (standing rest : List Grant) (grant : Grant) → after ≡ standing ++ replayed owners standing (filter passes rest)
        → All (IsBelow (grant ∷ rest)) standing → IsRising (grant ∷ rest) → is_among (rank grant) after ≡ false
    out standing rest grant is below rising =
        let later = replayed owners standing (filter passes rest) in
        ap (is_among (rank grant)) is ∙ among-append standing later (rank grant)
        ∙ or_from (is_among (rank grant) standing) (is_among (rank grant) later)
        (none_above standing (rank grant)
        (All-weaker (IsBelow (grant ∷ rest)) (λ earlier. rank earlier < rank grant)
        (λ earlier all. All-head (λ later. rank earlier < rank later) grant rest all) standing below))
        (none_below later (rank grant)
        (part-all (λ later. rank grant < rank later) (part-part (part-replayed owners standing (filter passes rest)) (part-filter passes rest)) rising.0))

    below-tail : (standing rest : List Grant) (grant : Grant) → All (IsBelow (grant ∷ rest)) standing → All (IsBelow rest) standing
    below-tail standing rest grant below =
        All-weaker (IsBelow (grant ∷ rest)) (IsBelow rest) (λ earlier all. All-tail (λ later. rank earlier < rank later) grant rest all) standing below

    -- who lacks the option afterwards had it by a grant that has fallen
    bearer : (front standing rest : List Grant) (grant : Grant) → All (Met standing (grant ∷ rest)) front
        → has owners front grant.grantor (option_of grant) ≡ true → has owners standing grant.grantor (option_of grant) ≡ false → Cause grant
    bearer front standing rest grant met held lacks =
        let need = option_of grant in
        let test : Grant → Bool = λ giver. gives giver grant.grantor need in
        elim (has_parts owners front grant.grantor need held) [
          | inl owner ↦ absurd (true≢false (sym (has_owner owners standing grant.grantor need owner) ∙ lacks))
          | inr given ↦
              let found = passing (Met standing (grant ∷ rest)) test front met given in
              let giver = found.0 in
              elim (found.1).2 [
                | inl stands ↦ absurd (true≢false (sym (has_given owners standing grant.grantor need (stands test found.2)) ∙ lacks))
                | inr fell ↦ inr (giver, (found.1).0, fell, All-head (λ later. rank giver < rank later) grant rest (found.1).1, found.2)
              ]
        ]

    walk : (front standing grants : List Grant) → after ≡ standing ++ replayed owners standing (filter passes grants)
        → AreBorne front grants → IsRising grants → All Q grants → All (Met standing grants) front → All (IsBelow grants) standing
        → All Fallen grants
    walk front standing [] is borne rising all met below = All-nil Fallen
    walk front standing (grant ∷ rest) is borne rising all met below =
        let here : Q grant = All-head Q grant rest all in
        let more : All Q rest = All-tail Q grant rest all in
        let tail = below-tail standing rest grant below in
        let fallen : is_among (rank grant) after ≡ false → All (Met standing rest) (front ++ grant ∷ [])
        = λ fell. All-push (Met standing rest) front grant
        (All-weaker (Met standing (grant ∷ rest)) (Met standing rest) (λ earlier. met-same standing rest earlier grant) front met)
        (here, rising.0, inr fell) in
        by_cases (names revocation grant)
        (λ named.
        let is' = is ∙ ap (λ l. standing ++ replayed owners standing l) (filter-named grant rest named) in
        let fell = out standing rest grant is' below rising in
        All-cons Fallen grant rest (λ _. inl named)
        (walk (front ++ grant ∷ []) standing rest is' borne.1 rising.1 more (fallen fell) tail))
        (λ other.
        let unnamed = is ∙ ap (λ l. standing ++ replayed owners standing l) (filter-other grant rest other) in
        by_cases (has owners standing grant.grantor (option_of grant))
        (λ stands.
        let is' : after ≡ (standing ++ grant ∷ []) ++ replayed owners (standing ++ grant ∷ []) (filter passes rest)
        = unnamed ∙ ap (λ l. standing ++ l) (replayed-stands standing grant (filter passes rest) stands)
        ∙ sym (append_assoc standing (grant ∷ []) (replayed owners (standing ++ grant ∷ []) (filter passes rest))) in
        let found : is_among (rank grant) after ≡ true
        = ap (is_among (rank grant)) is' ∙ among-append (standing ++ grant ∷ []) _ (rank grant)
        ∙ ap (λ b. b || is_among (rank grant) (replayed owners (standing ++ grant ∷ []) (filter passes rest)))
        (any_last (λ g. rank g == rank grant) standing grant (eq-eqb (rank grant) (rank grant) refl)) in
        All-cons Fallen grant rest (λ fell. absurd (true≢false (sym found ∙ fell)))
        (walk (front ++ grant ∷ []) (standing ++ grant ∷ []) rest is' borne.1 rising.1 more
        (All-push (Met (standing ++ grant ∷ []) rest) front grant
        (All-weaker (Met standing (grant ∷ rest)) (Met (standing ++ grant ∷ []) rest) (λ earlier. met-more standing rest earlier grant) front met)
        (here, rising.0, inl (λ test passes'. any_last test standing grant passes')))
        (All-push (IsBelow rest) standing grant tail rising.0)))
        (λ lacks.
        let is' = unnamed ∙ ap (λ l. standing ++ l) (replayed-falls standing grant (filter passes rest) lacks) in
        let fell = out standing rest grant is' below rising in
        All-cons Fallen grant rest (λ _. bearer front standing rest grant met borne.0 lacks)
        (walk (front ++ grant ∷ []) standing rest is' borne.1 rising.1 more (fallen fell) tail)))

-- each of a list has an index in it
indexed : (grants : List Grant) → All (λ grant. (k : ℕ) × (k < length grants) × (slice_get grants k ≡ Some grant)) grants
indexed [] = All-nil (λ grant. (k : ℕ) × (k < 0) × (slice_get [] k ≡ Some grant))
indexed (first ∷ grants) =
    All-cons (λ grant. (k : ℕ) × (k < length (first ∷ grants)) × (slice_get (first ∷ grants) k ≡ Some grant)) first grants
    (0, omega arith, refl)
    (All-weaker (λ grant. (k : ℕ) × (k < length grants) × (slice_get grants k ≡ Some grant))
    (λ grant. (k : ℕ) × (k < length (first ∷ grants)) × (slice_get (first ∷ grants) k ≡ Some grant))
    (λ grant found. (suc found.0, (let less = found.1 in omega arith), found.2)) grants (indexed grants))

-- where ranks rise, the grant of a greater rank is later
later-slot : (grants : List Grant) (k j : ℕ) (grant other : Grant) → IsRising grants → slice_get grants k ≡ Some grant → slice_get grants j ≡ Some other
    → rank other < rank grant → j < k
later-slot [] k j grant other rising at at' less = absurd (none k at)
  where
    none : (k : ℕ) → slice_get {X = Grant} [] k ≡ Some grant → ⊥
    none zero is = cc
    none (suc k) is = cc
later-slot (first ∷ grants) zero zero grant other rising at at' less =
    let same : grant ≡ other = cc in
    let equal : rank grant ≡ rank other = ap rank same in absurd (omega arith)
later-slot (first ∷ grants) zero (suc j) grant other rising at at' less =
    let same : first ≡ grant = cc in
    let above : rank first < rank other = above-all grants j rising.0 at' in
    let equal : rank first ≡ rank grant = ap rank same in absurd (omega arith)
  where
    above-all : (grants : List Grant) (j : ℕ) → All (λ later. rank first < rank later) grants → slice_get grants j ≡ Some other → rank first < rank other
    above-all [] zero all is = absurd (cc)
    above-all [] (suc j) all is = absurd (cc)
    above-all (g ∷ gs) zero all is = let same : g ≡ other = cc in subst (λ (x : Grant). rank first < rank x) same (All-head (λ later. rank first < rank later) g gs all)
    above-all (g ∷ gs) (suc j) all is = above-all gs j (All-tail (λ later. rank first < rank later) g gs all) is
later-slot (first ∷ grants) (suc k) zero grant other rising at at' less = omega arith
later-slot (first ∷ grants) (suc k) (suc j) grant other rising at at' less =
    let earlier = later-slot grants k j grant other rising.1 at at' less in omega arith

module _ (b : Batch) (sound : IsSoundBatch b) (k : ℕ) (slot : k < length (batch_slots b)) where
  slots-rising : IsRising (batch_slots b)
  unfolding batch_slots
  slots-rising = slots-rise (batch_deeds b (λ _. false)) sound.placed (rising-grants b.owners b.before sound.proper) b.size

  -- the grants in force are those of slots
  kept-slots : (P : Grant → Type 0) → All P (batch_slots b) → (n : ℕ) → n ≤ b.size → All P (kept b.owners (batch_world_before b n).deeds)
  unfolding batch_slots
  kept-slots P all n within =
      let d = serial_deeds b in
      let placed = serial-placed b sound in
      let split = made-split d placed b.size n within in
      let test : Deed → Bool = λ deed. is_made d (place_of deed) in
      let made : All P (grants_of (made_before d b.size)) = rw (made-named d placed b.size) (part-all P (part-grants_filter test (named_before d b.size)) all) in
      let both : All P (grants_of (made_before d n) ++ grants_of split.0) = rw (← grants-append (made_before d n) split.0) (rw split.1 at made) in
      let here : All P (grants_of (batch_world_before b n).deeds) = rw (deeds-made b sound n) (part-all P (part-beginning (grants_of (made_before d n)) (grants_of split.0)) both) in
      part-all P (part-kept_grants b.owners (batch_world_before b n).deeds) here

  -- a grant that falls with another does so at the same place
  falls-with : (n : ℕ) (revocation : Revocation) → n < b.size → was_done (serial_words b n) ≡ true → b.deeds n ≡ Revoking revocation ∷ []
      → (grant : Grant) → slice_get (batch_slots b) k ≡ Some grant → (giver : Grant)
      → ((j : ℕ) × (j < length (batch_slots b)) × (slice_get (batch_slots b) j ≡ Some giver)) × (is_among (rank giver) (kept b.owners (batch_world_before b n).deeds) ≡ true)
      → is_among (rank giver) (kept b.owners ((batch_world_before b n).deeds ++ Revoking revocation ∷ [])) ≡ false
      → rank giver < rank grant → gives giver grant.grantor (option_of grant) ≡ true → FallsWith b n k grant
  falls-with n revocation within done deed grant at giver found fell below lends =
      let j = (found.0).0 in
      let here : slice_get (batch_slots b) j ≡ Some giver = (found.0).2 in
      let here-ranked : rank_at b j ≡ rank giver
      = get_or-map rank (batch_slots b) j no_grant 0 (found.0).1 ∙ ap rank (get_or_from_slice_get (batch_slots b) j giver no_grant here) in
      let ended : is_ended b.owners (batch_world_before b n).deeds (Revoking revocation) (rank_at b j) ≡ true
      = rw here-ranked (and_from (is_among (rank giver) (kept b.owners (batch_world_before b n).deeds)) _ found.1 (not_from_false (is_among (rank giver) (kept b.owners ((batch_world_before b n).deeds ++ Revoking revocation ∷ []))) fell)) in
      record {
        bearer = j;
        giver = giver;
        earlier = later-slot (batch_slots b) k j grant giver slots-rising at here below;
        at = here;
        ends = serial-at b sound n j revocation within done deed ended;
        lends = lends;
      }

  pub ends-by-cascade : (n : ℕ) → serial_ends b n k ≡ true → EndsByCascade b n k
  ends-by-cascade n ends =
      let only = serial-only b sound n k slot ends in
      let past = (batch_world_before b n).deeds in
      let before = kept b.owners past in
      let after = kept b.owners (past ++ Revoking only.revocation ∷ []) in
      let within : n ≤ b.size = (let less = only.within in omega arith) in
      let InSlots : Grant → Type 0 = λ grant. (j : ℕ) × (j < length (batch_slots b)) × (slice_get (batch_slots b) j ≡ Some grant) in
      let Q : Grant → Type 0 = λ grant. InSlots grant × (is_among (rank grant) before ≡ true) in
      let all : All Q before
      = All-both InSlots (λ grant. is_among (rank grant) before ≡ true) before (kept-slots InSlots (indexed (batch_slots b)) n within) (all_among before) in
      let causes : All (Fallen b.owners only.revocation Q after) before
      = walk b.owners only.revocation Q after [] [] before (kept-revoke b.owners past only.revocation)
      (borne-replayed b.owners only.revocation [] (erased past)) (IsRising-kept b.owners past (deeds-proper b sound n)) all
      (All-nil (Met b.owners only.revocation Q after [] before)) (All-nil (IsBelow b.owners only.revocation Q after before)) in
      let parts = and_parts (is_among (rank_at b k) before) (not (is_among (rank_at b k) after)) only.ended in
      let cause : Cause b.owners only.revocation Q after (grant_here b sound k slot)
      = among_all (λ ranked. ranked ≡ rank_at b k → is_among ranked after ≡ false → Cause b.owners only.revocation Q after (grant_here b sound k slot)) before (rank_at b k)
      (All-weaker (λ g. Same b sound k slot g × Fallen b.owners only.revocation Q after g)
      (λ g. rank g ≡ rank_at b k → is_among (rank g) after ≡ false → Cause b.owners only.revocation Q after (grant_here b sound k slot))
      (λ g both at out. subst (Cause b.owners only.revocation Q after) (both.0 at) (both.1 out))
      before (All-both (Same b sound k slot) (Fallen b.owners only.revocation Q after) before (kept-same b sound k slot n within) causes))
      parts.0 refl (not-true (is_among (rank_at b k) after) parts.1) in
      record {
        within = only.within;
        revocation = only.revocation;
        deed = only.deed;
        grant = grant_here b sound k slot;
        at = slice_get-get_or (batch_slots b) k no_grant slot;
        cause = elim cause [
          | inl named ↦ inl named
          | inr by ↦ inr (falls-with n only.revocation only.within only.done only.deed (grant_here b sound k slot) (slice_get-get_or (batch_slots b) k no_grant slot) by.0 by.1 by.2 by.3 by.4)
        ];
      }
