-- The slots that are due are all that the batch may reach, as far as they are before it.
use Rattle.std.proofs.Common.{◌≡◌, ℕ, zero, suc, ◌+◌, ◌<◌, ◌≤◌, ◌&&◌, ◌||◌, not, Bool, true, false, cond, List, [], ◌∷◌, ◌++◌, length, take, Less, refl, sym, ◌∙◌, ap, arith, inl, inr}
use Rattle.std.specs.Prelude.{◌==◌, ◌⊎◌, All, Option, Some, None, slice_get}
use Rattle.std.specs.BTreeMap.{is_at}
use Rattle.std.specs.BTreeSet.{BTreeSet, Updates}
use Rattle.std.specs.List.{list_any}
use Rattle.std.specs.Option.{option_map_or}
use Rattle.std.specs.Ordering.{nat_cmp}
use Rattle.std.proofs.lemmas.Bool.{and_from, and_parts, cases_lt, eq-eqb, eqb-true, or_cases, or_right, true≢false}
use Rattle.std.proofs.lemmas.Bool.Decides.{nat_tests}
use Rattle.std.proofs.lemmas.List.Elements.{All-head, All-tail}
use Rattle.std.proofs.lemmas.List.Folds.{list_any-append}
use Rattle.model_base.specs.declared.deed.Deed.{Deed}
use Rattle.model_base.specs.declared.deed.Deed.TheVariants.{Granting, Revoking}
use Rattle.model_base.specs.declared.deed.Grant.{Grant}
use Rattle.model_base.specs.declared.deed.Grantee.{Grantee}
use Rattle.model_base.specs.declared.deed.Grantee.TheVariants.{User}
use Rattle.model_base.specs.declared.deed.Kind.{Kind}
use Rattle.model_base.specs.declared.deed.Kind.TheVariants.{Read, Insert, Update, Delete}
use Rattle.model_base.specs.declared.deed.Revocation.{Revocation}
use Rattle.model_base.specs.DeedsLeft.{revocation_of}
use Rattle.model_base.specs.Laws.{AreGrantsOrRevocation, IsGranting}
use Rattle.grants_base.specs.Index.{IsNext, is_by, passes_at}
use Rattle.model_base.specs.Privileges.{has_kind, names, option_holder, revokes}
use Rattle.bohm_core_base.specs.Batch.{Batch, batch_slots}
use Rattle.log_batch.specs.Earlier.{earlier_count, earlier_grants}
use Rattle.log_batch.specs.declared.holders.Holders.{Holders}
use Rattle.log_batch.specs.declared.reach.Reach.{Reach}
use Rattle.log_batch.specs.declared.revoked.Revoked.{Revoked}
use Rattle.log_batch.specs.Holders.{grantor_of, has_holder, holder_of, new_holder}
use Rattle.log_batch.specs.Listing.{is_lent, is_open, is_reached, is_revoked, lends, listed_below}
use Rattle.log_batch.specs.Reach.{Adds, AddsGrantees, AddsKind, AreSeeds, IsDue, IsNextOpen, IsReach}
use Rattle.log_batch.specs.Revoked.{has_named, is_between, is_named_by, named_by, named_with, names_of_kind, names_to}
use Rattle.grants_base.specs.Index.{is_one_of}
use Rattle.log_batch.proofs.HolderSets.{by-holder, same_holder-true}
use Rattle.log_batch.proofs.RevokedSets.{and_false, named-same, names-kinds, names-more, names-to, same_named-true}
use Rattle.grants_base.proofs.Walks.{nothing}
use Rattle.model_base.proofs.Replay.{by_cases}

-- a set of numbers, and one with a number more
is_at-same : (slot key : ℕ) → is_at (nat_cmp slot) key ≡ (key == slot)
is_at-same slot key = grind (arith, nat_tests)

contains_one : (slots : List ℕ) (slot : ℕ) → list_any (is_at (nat_cmp slot)) slots ≡ is_one_of slots slot
contains_one [] slot = refl
contains_one (key ∷ slots) slot = rw (is_at-same slot key, contains_one slots slot) refl

pub one_more : (before after : BTreeSet ℕ) (slot : ℕ) → Updates nat_cmp before after slot true
    → (j : ℕ) → is_one_of after.keys j ≡ ((slot == j) || is_one_of before.keys j)
one_more before after slot updates j = sym (contains_one after.keys j) ∙ updates.0 j ∙ both
  where
    at_here : (slot == j) ≡ true → is_at (nat_cmp slot) j ≡ true
    at_here here = grind (arith, nat_tests)

    at_apart : (slot == j) ≡ false → is_at (nat_cmp slot) j ≡ false
    at_apart apart = grind (arith, nat_tests)

    both : cond (is_at (nat_cmp slot) j) true (list_any (is_at (nat_cmp j)) before.keys) ≡ ((slot == j) || is_one_of before.keys j)
    both =
        rw contains_one
        (by_cases (slot == j) (λ here. rw (at_here here, here) refl) (λ apart. rw (at_apart apart, apart) refl))

-- in the beginning of a list stands what is there in the whole
take_at : (grants : List Grant) (n j : ℕ) → j < n → slice_get (take n grants) j ≡ slice_get grants j
take_at grants zero j less = absurd (omega arith)
take_at [] (suc n) j less = refl
take_at (grant ∷ grants) (suc n) zero less = refl
take_at (grant ∷ grants) (suc n) (suc j) less = take_at grants n j (omega arith)

take_past : (grants : List Grant) (n j : ℕ) → n ≤ j → slice_get (take n grants) j ≡ None
take_past grants zero j over = none j
  where
    none : (j : ℕ) → slice_get {X = Grant} [] j ≡ None
    none zero = refl
    none (suc j) = refl
take_past [] (suc n) j over = none j
  where
    none : (j : ℕ) → slice_get {X = Grant} [] j ≡ None
    none zero = refl
    none (suc j) = refl
take_past (grant ∷ grants) (suc n) zero over = absurd (omega arith)
take_past (grant ∷ grants) (suc n) (suc j) over = take_past grants n j (omega arith)

or_first : (a b : Bool) → a ≡ true → (a || b) ≡ true
or_first a b is = rw is refl

or_none : (a : Bool) → (a || false) ≡ a
or_none true = refl
or_none false = refl

or_turned : (a b : Bool) → (a || b) ≡ (b || a)
or_turned true true = refl
or_turned true false = refl
or_turned false true = refl
or_turned false false = refl

-- nothing is due
pub none-due : (due : List ℕ) → (0 < length due → ⊥) → (j : ℕ) → is_one_of due j ≡ false
none-due [] empty j = refl
none-due (slot ∷ due) empty j = absurd (empty (omega arith))

-- one that isn't new was there
pub not_new : (is_new has : Bool) → is_new ≡ not has → is_new ≡ false → has ≡ true
not_new is_new true is none = refl
not_new is_new false is none = absurd (true≢false (sym is ∙ none))

-- a user who is found is the one to whom the grant gives the option
pub holder-found : (lent : Holders) (grant : Grant) (holder : Option ℕ) (user : ℕ) → new_holder lent grant holder ≡ Some user → holder ≡ Some user
holder-found lent grant None user is = is
holder-found lent grant (Some other) user is =
    by_cases (has_holder lent (holder_of (User other) grant.kind grant.table))
    (λ has. let none : None ≡ Some user = rw has at is in absurd (cc))
    (λ new. rw new at is)

-- where the deeds are grants, none revokes a grant
none-revoked : (deeds : List Deed) → All IsGranting deeds → (grant : Grant) → list_any (λ deed. revokes deed grant) deeds ≡ false
none-revoked [] all grant = refl
none-revoked (Granting made ∷ deeds) all grant = none-revoked deeds (All-tail IsGranting (Granting made) deeds all) grant
none-revoked (Revoking revocation ∷ deeds) all grant = absurd (All-head IsGranting (Revoking revocation) deeds all)

-- whether one of the deeds of a place revokes a grant, by the revocation among them
pub revoked-told : (deeds : List Deed) → AreGrantsOrRevocation deeds → (made : Option Revocation) → made ≡ revocation_of deeds → (grant : Grant)
    → list_any (λ deed. revokes deed grant) deeds ≡ option_map_or (λ (revocation : Revocation). names revocation grant) made false
revoked-told deeds one made is grant = by_one one ∙ sym (ap told is)
  where
    told : Option Revocation → Bool
    told found = option_map_or (λ (revocation : Revocation). names revocation grant) found false

    none : (deeds : List Deed) → All IsGranting deeds → revocation_of deeds ≡ None
    none [] all = refl
    none (Granting first ∷ deeds) all = refl
    none (Revoking revocation ∷ deeds) all = absurd (All-head IsGranting (Revoking revocation) deeds all)

    by_one : AreGrantsOrRevocation deeds → list_any (λ deed. revokes deed grant) deeds ≡ told (revocation_of deeds)
    by_one (inl all) = none-revoked deeds all grant ∙ sym (ap told (none deeds all))
    by_one (inr (revocation, alone)) = rw alone (or_none (names revocation grant))

module _ (b : Batch) where
  pub passes-earlier : (passes : Grant → Bool) (j : ℕ) → j < earlier_count b → passes_at passes (earlier_grants b) j ≡ passes_at passes (batch_slots b) j
  passes-earlier passes j less = ap (λ found. option_map_or passes found false) (take_at (batch_slots b) (earlier_count b) j less)

  -- what is found is before the batch
  pub found-earlier : (passes : Grant → Bool) (j : ℕ) → passes_at passes (earlier_grants b) j ≡ true → j < earlier_count b
  found-earlier passes j found =
      elim (cases_lt j (earlier_count b)) [
        | inl less ↦ less
        | inr over ↦ absurd (true≢false (sym found ∙ ap (λ grant. option_map_or passes grant false) (take_past (batch_slots b) (earlier_count b) j over)))
      ]

  -- the next grant, in force or not, lies before those that are in force
  pub open-next : (passes : Grant → Bool) (from : ℕ) (found : Option ℕ) → IsNext passes (earlier_grants b) from found → IsNextOpen b passes from found
  open-next passes from None next = record {
    there = tt;
    passed = λ k low less before open_k. sym (passes-earlier passes k less) ∙ next k low;
  }
  open-next passes from (Some i) next = record {
    there = (next.0, next.1);
    passed = λ k low less before open_k. sym (passes-earlier passes k less) ∙ next.2 k low before;
  }

  module _ (passes : Grant → Bool) (start : ℕ) (old : List ℕ) where
    -- at first none are added
    pub adds-none : Adds b passes start start old old
    adds-none = record { found = λ j low less. absurd (omega arith); kept = λ j is. is; only = λ j is. inl is }

    -- one more that is found
    pub adds-one : (from slot : ℕ) (due more : List ℕ) → start ≤ from → Adds b passes start from old due → IsNextOpen b passes from (Some slot)
        → ((j : ℕ) → is_one_of more j ≡ ((is_open b slot && (slot == j)) || is_one_of due j)) → Adds b passes start (slot + 1) old more
    adds-one from slot due more low so_far next one =
        let here = found-earlier passes slot next.there.1 in record {
          found = λ j above less open_j passes_j. elim (cases_lt j from) [
            | inl earlier ↦ one j ∙ or_right _ (is_one_of due j) (so_far.found j above earlier open_j passes_j)
            | inr later ↦ elim (cases_lt j slot) [
              | inl skipped ↦
                  let less' : j < earlier_count b = omega arith in
                  absurd (true≢false (sym passes_j ∙ next.passed j later less' skipped open_j))
              | inr over ↦
                  let same : slot ≡ j = omega arith in
                  one j ∙ or_first (is_open b slot && (slot == j)) (is_one_of due j) (and_from (is_open b slot) (slot == j) (ap (is_open b) same ∙ open_j) (eq-eqb slot j same))
            ]
          ];
          kept = λ j is. one j ∙ or_right _ (is_one_of due j) (so_far.kept j is);
          only = λ j is. elim (or_cases (is_open b slot && (slot == j)) (is_one_of due j) (sym (one j) ∙ is)) [
            | inl now ↦
                let parts = and_parts (is_open b slot) (slot == j) now in
                let same : slot ≡ j = eqb-true slot j parts.1 in
                let above = next.there.0 in
                inr (
                  omega arith,
                  omega arith,
                  ap (is_open b) (sym same) ∙ parts.0,
                  ap (passes_at passes (batch_slots b)) (sym same) ∙ sym (passes-earlier passes slot here) ∙ next.there.1,
                )
            | inr before ↦ so_far.only j before
          ];
        }

    -- no more are found
    pub adds-last : (from : ℕ) (due : List ℕ) → Adds b passes start from old due → IsNextOpen b passes from None
        → Adds b passes start (earlier_count b) old due
    adds-last from due so_far next = record {
      found = λ j above less open_j passes_j. elim (cases_lt j from) [
        | inl earlier ↦ so_far.found j above earlier open_j passes_j
        | inr later ↦ absurd (true≢false (sym passes_j ∙ next.passed j later less tt open_j))
      ];
      kept = so_far.kept;
      only = so_far.only;
    }

    -- there are no more
    pub adds-all : (from : ℕ) (due : List ℕ) → Adds b passes start from old due → earlier_count b ≤ from → Adds b passes start (earlier_count b) old due
    adds-all from due so_far over = record {
      found = λ j above less. so_far.found j above (omega arith);
      kept = so_far.kept;
      only = so_far.only;
    }

  -- at first nothing is named and nothing is due
  pub seeds-none : (revoked : Revoked) (due : List ℕ) → ((grant : Grant) → is_named_by revoked grant ≡ false) → due ≡ []
      → AreSeeds b (is_revoked b 0) revoked due
  seeds-none revoked due none nothing = record {
    named = none;
    all = λ j less open_j is. absurd (true≢false (sym is ∙ never (slice_get (batch_slots b) j)));
    only = λ j is. absurd (true≢false (sym is ∙ ap (λ l. is_one_of l j) nothing));
  }
    where
      never : (found : Option Grant) → option_map_or (λ (grant : Grant). false) found false ≡ false
      never None = refl
      never (Some grant) = refl

  -- by another test that passes the same grants
  pub seeds-as : (passes other : Grant → Bool) (revoked : Revoked) (due : List ℕ) → ((grant : Grant) → passes grant ≡ other grant)
      → AreSeeds b passes revoked due → AreSeeds b other revoked due
  seeds-as passes other revoked due same seeds = record {
    named = λ grant. seeds.named grant ∙ same grant;
    all = λ j less open_j is. seeds.all j less open_j (at (slice_get (batch_slots b) j) ∙ is);
    only = λ j is. (let was = seeds.only j is in (was.0, was.1, sym (at (slice_get (batch_slots b) j)) ∙ was.2));
  }
    where
      at : (found : Option Grant) → option_map_or passes found false ≡ option_map_or other found false
      at None = refl
      at (Some grant) = same grant

  -- a place without a revocation
  pub seeds-same : (index : ℕ) (revoked : Revoked) (due : List ℕ) → ((grant : Grant) → list_any (λ deed. revokes deed grant) (b.deeds index) ≡ false)
      → AreSeeds b (is_revoked b index) revoked due → AreSeeds b (is_revoked b (suc index)) revoked due
  seeds-same index revoked due none =
      seeds-as (is_revoked b index) (is_revoked b (suc index)) revoked due (λ grant. rw (none grant) refl)

  -- what a revocation names to all its grantees is what it names
  pub seeds-whole : (index : ℕ) (revocation : Revocation) (revoked : Revoked) (due : List ℕ) → ((grant : Grant) → list_any (λ deed. revokes deed grant) (b.deeds index) ≡ names revocation grant)
      → AreSeeds b (λ grant. names_to revocation revocation.grantees grant || is_revoked b index grant) revoked due
      → AreSeeds b (is_revoked b (suc index)) revoked due
  seeds-whole index revocation revoked due against =
      seeds-as (λ grant. names_to revocation revocation.grantees grant || is_revoked b index grant) (is_revoked b (suc index)) revoked due
      (λ grant. ap (λ x. x || is_revoked b index grant) (sym (names-to revocation grant) ∙ sym (against grant)))

  -- what it names to a grantee of its kinds one after another is what it names to the grantee
  pub kinds-whole : (revocation : Revocation) (grantee : Grantee) (passes : Grant → Bool) (revoked : Revoked) (due : List ℕ)
      → AreSeeds b (λ grant. names_of_kind revocation grantee Delete grant || (names_of_kind revocation grantee Update grant || (names_of_kind revocation grantee Insert grant || (names_of_kind revocation grantee Read grant || passes grant)))) revoked due
      → AreSeeds b (λ grant. names_to revocation (grantee ∷ []) grant || passes grant) revoked due
  kinds-whole revocation grantee passes revoked due =
      seeds-as (λ grant. names_of_kind revocation grantee Delete grant || (names_of_kind revocation grantee Update grant || (names_of_kind revocation grantee Insert grant || (names_of_kind revocation grantee Read grant || passes grant))))
      (λ grant. names_to revocation (grantee ∷ []) grant || passes grant) revoked due (λ grant. names-kinds revocation grantee grant (passes grant))

  -- to no grantee it names nothing
  pub grantees-none : (revocation : Revocation) (revoked : Revoked) (due : List ℕ) → AddsGrantees b revocation [] revoked revoked due due
  grantees-none revocation revoked due = λ passes.
      seeds-as passes (λ grant. names_to revocation [] grant || passes grant) revoked due (λ grant. sym (ap (λ x. x || passes grant) (and_false (revocation.grantor == grant.grantor))))

  -- to one grantee more
  pub grantees-more : (revocation : Revocation) (grantees : List Grantee) (grantee : Grantee) (old new newest : Revoked) (due more most : List ℕ)
      → AddsGrantees b revocation grantees old new due more → AddsGrantees b revocation (grantee ∷ []) new newest more most
      → AddsGrantees b revocation (grantees ++ grantee ∷ []) old newest due most
  grantees-more revocation grantees grantee old new newest due more most adds further = λ passes seeds.
      seeds-as (λ grant. names_to revocation (grantee ∷ []) grant || (names_to revocation grantees grant || passes grant))
      (λ grant. names_to revocation (grantees ++ grantee ∷ []) grant || passes grant) newest most
      (λ grant. names-more revocation grantees grantee grant (passes grant)) (further (λ grant. names_to revocation grantees grant || passes grant) (adds passes seeds))

  module _ (revocation : Revocation) (grantee : Grantee) (kind : Kind) where
    -- a kind that the revocation doesn't speak of
    pub kind-apart : (revoked : Revoked) (due : List ℕ) → has_kind revocation.kinds kind ≡ false → AddsKind b revocation grantee kind revoked revoked due due
    kind-apart revoked due apart = λ passes.
        seeds-as passes (λ grant. names_of_kind revocation grantee kind grant || passes grant) revoked due (λ grant. sym (ap (λ x. (x && is_between revocation grantee kind grant) || passes grant) apart))

    module _ (among : has_kind revocation.kinds kind ≡ true) (old new : Revoked) (due : List ℕ)
        (put : (grant : Grant) → is_named_by new grant ≡ (is_between revocation grantee kind grant || is_named_by old grant)) where
      abbrev between : Grant → Bool
      between = is_between revocation grantee kind

      abbrev with : (Grant → Bool) → Grant → Bool
      with passes grant = between grant || passes grant

      spoken : (more : List ℕ) (passes : Grant → Bool) → AreSeeds b (with passes) new more → AreSeeds b (λ grant. names_of_kind revocation grantee kind grant || passes grant) new more
      spoken more passes =
          seeds-as (with passes) (λ grant. names_of_kind revocation grantee kind grant || passes grant) new more (λ grant. sym (ap (λ x. (x && between grant) || passes grant) among))

      put-named : (passes : Grant → Bool) → ((grant : Grant) → is_named_by old grant ≡ passes grant) → (grant : Grant) → is_named_by new grant ≡ with passes grant
      put-named passes named grant = put grant ∙ ap (λ x. between grant || x) (named grant)

      -- one that names of the kind what one before it named
      pub kind-again : has_named old (named_by revocation grantee kind) ≡ true → AddsKind b revocation grantee kind old new due due
      kind-again was = λ passes seeds. spoken due passes (record {
        named = put-named passes seeds.named;
        all = λ j less open_j is. seeds.all j less open_j (sym (at passes seeds.named (slice_get (batch_slots b) j)) ∙ is);
        only = λ j is. (let before = seeds.only j is in (before.0, before.1, at passes seeds.named (slice_get (batch_slots b) j) ∙ before.2));
      })
        where
          same : (passes : Grant → Bool) → ((grant : Grant) → is_named_by old grant ≡ passes grant) → (grant : Grant) → with passes grant ≡ passes grant
          same passes named grant =
              by_cases (between grant)
              (λ yes.
              let here = same_named-true (named_by revocation grantee kind) (named_with grant) (named-same revocation grantee kind grant ∙ yes) in
              let revoked : passes grant ≡ true = sym (named grant) ∙ ap (has_named old) (sym here) ∙ was in
              rw (yes, revoked) refl)
              (λ no. rw no refl)

          at : (passes : Grant → Bool) → ((grant : Grant) → is_named_by old grant ≡ passes grant) → (found : Option Grant)
              → option_map_or (with passes) found false ≡ option_map_or passes found false
          at passes named None = refl
          at passes named (Some grant) = same passes named grant

      -- and one that names of it what none before it named
      pub kind-more : (more : List ℕ) → Adds b between 0 (earlier_count b) due more → AddsKind b revocation grantee kind old new due more
      kind-more more adds = λ passes seeds. spoken more passes (record {
        named = put-named passes seeds.named;
        all = λ j less open_j is. elim (parts passes (slice_get (batch_slots b) j) is) [
          | inl now ↦ adds.found j (omega arith) less open_j now
          | inr before ↦ adds.kept j (seeds.all j less open_j before)
        ];
        only = λ j is. elim (adds.only j is) [
          | inl was ↦ (let before = seeds.only j was in (before.0, before.1, later passes (slice_get (batch_slots b) j) before.2))
          | inr now ↦ (now.1, now.2, first passes (slice_get (batch_slots b) j) now.3)
        ];
      })
        where
          parts : (passes : Grant → Bool) (found : Option Grant) → option_map_or (with passes) found false ≡ true
              → (option_map_or between found false ≡ true) ⊎ (option_map_or passes found false ≡ true)
          parts passes None is = absurd (true≢false (sym is))
          parts passes (Some grant) is = or_cases (between grant) (passes grant) is

          first : (passes : Grant → Bool) (found : Option Grant) → option_map_or between found false ≡ true → option_map_or (with passes) found false ≡ true
          first passes None is = absurd (true≢false (sym is))
          first passes (Some grant) is = or_first (between grant) (passes grant) is

          later : (passes : Grant → Bool) (found : Option Grant) → option_map_or passes found false ≡ true → option_map_or (with passes) found false ≡ true
          later passes None is = absurd (true≢false (sym is))
          later passes (Some grant) is = or_right (between grant) (passes grant) is

  -- who may reach a slot, by its grant
  abbrev why : List ℕ → Grant → Bool
  why listed grant = is_revoked b b.size grant || is_lent b listed grant

  -- the slots that are due by the revocations are those that are reached at first
  pub due-first : (revoked : Revoked) (listed due : List ℕ) → listed ≡ [] → AreSeeds b (is_revoked b b.size) revoked due → IsDue b 0 listed due
  due-first revoked listed due none seeds = record {
    all = λ j low less is.
        (let parts = and_parts (is_open b j) _ is in seeds.all j less parts.0 (sym (at (slice_get (batch_slots b) j)) ∙ parts.1));
    only = λ j is. (let was = seeds.only j is in (omega arith, was.0, and_from (is_open b j) _ was.1 (at (slice_get (batch_slots b) j) ∙ was.2)));
  }
    where
      at : (found : Option Grant) → option_map_or (why listed) found false ≡ option_map_or (is_revoked b b.size) found false
      at None = refl
      at (Some grant) = ap (λ l. is_revoked b b.size grant || is_lent b l grant) none ∙ or_none (is_revoked b b.size grant)

  pub reach-first : (reach : Reach) → reach.slots.items ≡ [] → ((grant : Grant) → has_holder reach.lent (grantor_of grant) ≡ false)
      → ((grant : Grant) → is_named_by reach.revoked grant ≡ is_revoked b b.size grant) → IsReach b 0 reach
  reach-first reach none nobody revoked = record {
    slots = none;
    lent = λ grant. nobody grant ∙ sym (ap (λ l. is_lent b l grant) none);
    revoked = revoked;
  }

  -- slots that the batch can't reach add nothing
  pub skip : (listed : List ℕ) (low high : ℕ) → low ≤ high → listed ≡ listed_below b low
      → ((j : ℕ) → low ≤ j → j < high → is_reached b listed j ≡ false) → listed ≡ listed_below b high
  skip listed low zero up is none = let same : low ≡ 0 = omega arith in is ∙ ap (listed_below b) same
  skip listed low (suc high) up is none =
      elim (cases_lt high low) [
        | inl over ↦ let same : low ≡ suc high = omega arith in is ∙ ap (listed_below b) same
        | inr under ↦
            let before = skip listed low high under is (λ j above below. none j above (omega arith)) in
            let out : is_reached b (listed_below b high) high ≡ false = ap (λ l. is_reached b l high) (sym before) ∙ none high under (omega arith) in
            rw out before
      ]

  -- what the least of those that are due is, and what is due after it
  pub record IsFirst (low : ℕ) (listed rest : List ℕ) (slot : ℕ) : Type 0 where
    pub above : low ≤ slot
    pub within : slot < earlier_count b
    pub reached : is_reached b listed slot ≡ true
    pub free : (j : ℕ) → low ≤ j → j < slot → is_reached b listed j ≡ false
    pub after : IsDue b (suc slot) listed rest

  less_is : (slot key : ℕ) → nat_cmp slot key ≡ Less → slot < key
  less_is slot key is = grind (arith, nat_tests)

  above_all : (slot : ℕ) (keys : List ℕ) → All (λ key. nat_cmp slot key ≡ Less) keys → (j : ℕ) → is_one_of keys j ≡ true → slot < j
  above_all slot [] above j is = absurd (true≢false (sym is))
  above_all slot (key ∷ keys) above j is =
      elim (or_cases (key == j) (is_one_of keys j) is) [
        | inl here ↦
            let same : key ≡ j = eqb-true key j here in
            let less = less_is slot key (All-head (λ q. nat_cmp slot q ≡ Less) key keys above) in
            omega arith
        | inr later ↦ above_all slot keys (All-tail (λ q. nat_cmp slot q ≡ Less) key keys above) j later
      ]

  pub first-due : (low : ℕ) (listed due rest : List ℕ) (slot : ℕ) → IsDue b low listed due → due ≡ slot ∷ rest
      → All (λ key. nat_cmp slot key ≡ Less) rest → IsFirst low listed rest slot
  first-due low listed due rest slot state parts above =
      let lies = state.only slot (ap (λ l. is_one_of l slot) parts ∙ or_first (slot == slot) (is_one_of rest slot) (eq-eqb slot slot refl)) in record {
        above = lies.0;
        within = lies.1;
        reached = lies.2;
        free = λ j from less.
            by_cases (is_reached b listed j)
            (λ is. elim (or_cases (slot == j) (is_one_of rest j) (sym (ap (λ l. is_one_of l j) parts) ∙ state.all j from (let top = lies.1 in omega arith) is)) [
              | inl here ↦ let same : slot ≡ j = eqb-true slot j here in absurd (omega arith)
              | inr later ↦ let more = above_all slot rest above j later in absurd (omega arith)
            ])
            (λ none. none);
        after = record {
          all = λ j from less is.
              elim (or_cases (slot == j) (is_one_of rest j) (sym (ap (λ l. is_one_of l j) parts) ∙ state.all j (let bottom = lies.0 in omega arith) less is)) [
                | inl here ↦ let same : slot ≡ j = eqb-true slot j here in absurd (omega arith)
                | inr later ↦ later
              ];
          only = λ j is.
              (let more = above_all slot rest above j is in
              let was = state.only j (ap (λ l. is_one_of l j) parts ∙ or_right (slot == j) (is_one_of rest j) is) in
              (omega arith, was.1, was.2));
        };
      }

  -- one slot more that is reached
  module _ (slot : ℕ) (grant : Grant) (at : slice_get (batch_slots b) slot ≡ Some grant) where
    lent-more : (listed : List ℕ) (other : Grant) → is_lent b (listed ++ slot ∷ []) other ≡ (lends grant other || is_lent b listed other)
    lent-more listed other =
        let test : ℕ → Bool = λ k. option_map_or (λ (giver : Grant). lends giver other) (slice_get (batch_slots b) k) false in
        let here : test slot ≡ lends grant other = ap (λ found. option_map_or (λ (giver : Grant). lends giver other) found false) at in
        list_any-append test listed (slot ∷ [])
        ∙ ap (λ x. list_any test listed || x) (or_none (test slot) ∙ here)
        ∙ or_turned (list_any test listed) (lends grant other)

    reached-more : (listed : List ℕ) (j : ℕ) → is_reached b listed j ≡ true → is_reached b (listed ++ slot ∷ []) j ≡ true
    reached-more listed j is =
        let parts = and_parts (is_open b j) _ is in
        and_from (is_open b j) _ parts.0 (by_found (slice_get (batch_slots b) j) parts.1)
      where
        by_found : (found : Option Grant) → option_map_or (why listed) found false ≡ true → option_map_or (why (listed ++ slot ∷ [])) found false ≡ true
        by_found None is = is
        by_found (Some other) is =
            elim (or_cases (is_revoked b b.size other) (is_lent b listed other) is) [
              | inl revoked ↦ or_first (is_revoked b b.size other) _ revoked
              | inr lent ↦ or_right (is_revoked b b.size other) _ (lent-more listed other ∙ or_right (lends grant other) _ lent)
            ]

    pub reach-more : (old new : Reach) → is_reached b old.slots.items slot ≡ true → IsReach b slot old
        → new.slots.items ≡ old.slots.items ++ slot ∷ []
        → ((other : Grant) → has_holder new.lent (grantor_of other) ≡ (lends grant other || has_holder old.lent (grantor_of other)))
        → ((other : Grant) → is_named_by new.revoked other ≡ is_named_by old.revoked other)
        → IsReach b (suc slot) new
    reach-more old new reached was slots lent revoked = record {
      slots =
          let reached' : is_reached b (listed_below b slot) slot ≡ true = ap (λ l. is_reached b l slot) (sym was.slots) ∙ reached in
          slots ∙ rw reached' (ap (λ l. l ++ slot ∷ []) was.slots);
      lent = λ other.
          lent other ∙ ap (λ x. lends grant other || x) (was.lent other) ∙ sym (lent-more old.slots.items other) ∙ ap (λ l. is_lent b l other) (sym slots);
      revoked = λ other. revoked other ∙ was.revoked other;
    }

    pub reach-past : (old : Reach) → is_reached b old.slots.items slot ≡ false → IsReach b slot old → IsReach b (suc slot) old
    reach-past old out was = record {
      slots =
          let out' : is_reached b (listed_below b slot) slot ≡ false = ap (λ l. is_reached b l slot) (sym was.slots) ∙ out in
          was.slots ∙ sym (rw out' refl);
      lent = was.lent;
      revoked = was.revoked;
    }

    -- the later slots by whom it gives the option are due with those that were
    pub due-more : (user next : ℕ) (listed rest more : List ℕ) → Adds b (is_by user grant.kind grant.table) next (earlier_count b) rest more
        → option_holder grant ≡ Some user → IsDue b next listed rest → IsDue b next (listed ++ slot ∷ []) more
    due-more user next listed rest more adds holder state = record {
      all = λ j from less is.
          (let parts = and_parts (is_open b j) _ is in
          elim (by_found (slice_get (batch_slots b) j) parts.1) [
            | inl before ↦ adds.kept j (state.all j from less (and_from (is_open b j) _ parts.0 before))
            | inr now ↦ adds.found j from less parts.0 now
          ]);
      only = λ j is. elim (adds.only j is) [
        | inl was ↦ (let before = state.only j was in (before.0, before.1, reached-more listed j before.2))
        | inr now ↦ (now.0, now.1, and_from (is_open b j) _ now.2 (lent-by (slice_get (batch_slots b) j) now.3))
      ];
    }
      where
        lent_is : (other : Grant) → lends grant other ≡ is_by user grant.kind grant.table other
        lent_is other = ap (λ found. option_map_or (λ u. is_by u grant.kind grant.table other) found false) holder

        by_found : (found : Option Grant) → option_map_or (why (listed ++ slot ∷ [])) found false ≡ true
            → (option_map_or (why listed) found false ≡ true) ⊎ (option_map_or (is_by user grant.kind grant.table) found false ≡ true)
        by_found None is = inl is
        by_found (Some other) is =
            elim (or_cases (is_revoked b b.size other) (is_lent b (listed ++ slot ∷ []) other) is) [
              | inl revoked ↦ inl (or_first (is_revoked b b.size other) _ revoked)
              | inr lent ↦ elim (or_cases (lends grant other) (is_lent b listed other) (sym (lent-more listed other) ∙ lent)) [
                | inl now ↦ inr (sym (lent_is other) ∙ now)
                | inr before ↦ inl (or_right (is_revoked b b.size other) _ before)
              ]
            ]

        lent-by : (found : Option Grant) → option_map_or (is_by user grant.kind grant.table) found false ≡ true
            → option_map_or (why (listed ++ slot ∷ [])) found false ≡ true
        lent-by None is = absurd (true≢false (sym is))
        lent-by (Some other) is =
            or_right (is_revoked b b.size other) _ (lent-more listed other ∙ or_first (lends grant other) _ (lent_is other ∙ is))

    -- none are due by it, if it gives nobody the option who didn't have it
    pub due-same : (reach : Reach) (next : ℕ) (rest : List ℕ) → ((other : Grant) → has_holder reach.lent (grantor_of other) ≡ is_lent b reach.slots.items other)
        → new_holder reach.lent grant (option_holder grant) ≡ None
        → IsDue b next reach.slots.items rest → IsDue b next (reach.slots.items ++ slot ∷ []) rest
    due-same reach next rest lent old state = record {
      all = λ j from less is.
          (let parts = and_parts (is_open b j) _ is in state.all j from less (and_from (is_open b j) _ parts.0 (by_found (slice_get (batch_slots b) j) parts.1)));
      only = λ j is. (let before = state.only j is in (before.0, before.1, reached-more reach.slots.items j before.2));
    }
      where
        had : (holder : Option ℕ) → new_holder reach.lent grant holder ≡ None → (other : Grant)
            → option_map_or (λ user. is_by user grant.kind grant.table other) holder false ≡ true → has_holder reach.lent (grantor_of other) ≡ true
        had None none other is = absurd (true≢false (sym is))
        had (Some user) none other is =
            let same = same_holder-true (holder_of (User user) grant.kind grant.table) (grantor_of other) (sym (by-holder user grant.kind grant.table other) ∙ is) in
            ap (has_holder reach.lent) (sym same)
            ∙ by_cases (has_holder reach.lent (holder_of (User user) grant.kind grant.table)) (λ has. has) (λ new. absurd (some (rw new at none)))
          where
            some : Some user ≡ None → ⊥
            some e = cc

        by_found : (found : Option Grant) → option_map_or (why (reach.slots.items ++ slot ∷ [])) found false ≡ true → option_map_or (why reach.slots.items) found false ≡ true
        by_found None is = is
        by_found (Some other) is =
            elim (or_cases (is_revoked b b.size other) (is_lent b (reach.slots.items ++ slot ∷ []) other) is) [
              | inl revoked ↦ or_first (is_revoked b b.size other) _ revoked
              | inr lent' ↦ or_right (is_revoked b b.size other) _
                  (elim (or_cases (lends grant other) (is_lent b reach.slots.items other) (sym (lent-more reach.slots.items other) ∙ lent')) [
                    | inl now ↦ sym (lent other) ∙ had (option_holder grant) old other now
                    | inr before ↦ before
                  ])
            ]

    -- whether the slot is reached, by who is in the sets
    pub reached-by : (reach : Reach) (is_none revoked lent : Bool) → is_none ≡ is_open b slot
        → ((other : Grant) → has_holder reach.lent (grantor_of other) ≡ is_lent b reach.slots.items other)
        → ((other : Grant) → is_named_by reach.revoked other ≡ is_revoked b b.size other)
        → revoked ≡ is_named_by reach.revoked grant → lent ≡ has_holder reach.lent (grantor_of grant)
        → (is_none && (revoked || lent)) ≡ is_reached b reach.slots.items slot
    reached-by reach is_none revoked lent none lents revokes by to =
        rw (at, none) (ap (λ x. is_open b slot && x) (ap (λ x. x || lent) (by ∙ revokes grant) ∙ ap (λ x. is_revoked b b.size grant || x) (to ∙ lents grant)))
