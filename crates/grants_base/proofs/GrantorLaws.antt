-- Slots under their grantors, with one more and with one less, and what is found among them.
use Rattle.std.proofs.Common.{◌≡◌, ℕ, ◌<◌, ◌≤◌, ◌&&◌, ◌||◌, not, Bool, true, false, cond, List, [], ◌∷◌, ◌++◌, ◌⊎◌, Option, Some, None, refl, sym, ◌∙◌, ap, arith, inl, inr, eqb, ltb}
use Rattle.std.specs.Prelude.{◌==◌, slice_get}
use Rattle.std.specs.Option.{option_copied, option_to_list}
use Rattle.std.specs.Borrow.{Bor}
use Rattle.std.specs.Map.Iter.{TakesFirst, deref}
use Rattle.std.specs.List.{list_any}
use Rattle.std.specs.Ordering.{is_eq, is_gt, nat_cmp, ordering_then}
use Rattle.std.specs.declared.cmp.Ordering.{Ordering}
use Rattle.std.specs.declared.cmp.Ordering.TheVariants.{Less, Equal, Greater}
use Rattle.std.specs.declared.ops.Bound.TheVariants.{Included, Unbounded}
use Rattle.std.specs.BTreeMap.{is_at}
use Rattle.std.specs.BTreeSet.{BTreeSet, IsKeyRangeOf, Updates}
use Rattle.std.proofs.lemmas.Bool.{true≢false, and_parts, eqb-true}
use Rattle.std.proofs.lemmas.Bool.Decides.{nat_tests}
use Rattle.std.proofs.lemmas.Map.Keys.{le_from_not_gt}
use Rattle.model_base.proofs.Replay.{by_cases}
use Rattle.grants_base.specs.Index.{IsFirst}
use Rattle.grants_base.specs.GrantorSet.{HasGainedBy, HasLostBy, granted_cmp, has_by, same_granted}
use Rattle.grants_base.specs.declared.grantor_set.Granted.{Granted}
use Rattle.grants_base.proofs.Indexing.{other_order}
use Rattle.grants_base.proofs.Lookups.{less_true}

abbrev key : ℕ → ℕ → Granted
key user slot = record { grantor = user; slot = slot }

is_eq-nat_cmp : (x y : ℕ) → is_eq (nat_cmp x y) ≡ eqb x y
is_eq-nat_cmp x y =
    by_cases (ltb x y)
    (λ less. let other : eqb x y ≡ false = grind (arith, nat_tests) in rw (less, other) refl)
    (λ same. rw same (by_cases (eqb x y) (λ e. rw e refl) (λ e. rw e refl)))

is_eq-ordering_then : (o p : Ordering) → is_eq (ordering_then o p) ≡ (is_eq o && is_eq p)
is_eq-ordering_then Less p = refl
is_eq-ordering_then Equal p = refl
is_eq-ordering_then Greater p = refl

at_granted : (a b : Granted) → is_at (granted_cmp a) b ≡ same_granted a b
at_granted a b =
    is_eq-ordering_then (nat_cmp a.grantor b.grantor) (nat_cmp a.slot b.slot)
    ∙ ap (λ e. e && is_eq (nat_cmp a.slot b.slot)) (is_eq-nat_cmp a.grantor b.grantor)
    ∙ ap (λ e. eqb a.grantor b.grantor && e) (is_eq-nat_cmp a.slot b.slot)

same_other : (a b : Granted) → same_granted a b ≡ same_granted b a
same_other a b =
    ap (λ e. e && (a.slot == b.slot)) (other_order a.grantor b.grantor)
    ∙ ap (λ e. (b.grantor == a.grantor) && e) (other_order a.slot b.slot)

contains_by : (slots : List Granted) (it : Granted) → list_any (is_at (granted_cmp it)) slots ≡ has_by slots it.grantor it.slot
contains_by [] it = refl
contains_by (x ∷ slots) it = rw (at_granted it x ∙ same_other it x, contains_by slots it) refl

either : (here has : Bool) → cond here true has ≡ (has || here)
either true true = refl
either true false = refl
either false true = refl
either false false = refl

both : (here has : Bool) → cond here false has ≡ (has && not here)
both true true = refl
both true false = refl
both false true = refl
both false false = refl

set_gained : (before after : BTreeSet Granted) (granted : Granted) → Updates granted_cmp before after granted true → HasGainedBy granted before.keys after.keys
set_gained before after granted updates = λ user k.
    sym (contains_by after.keys (key user k)) ∙ updates.0 (key user k)
    ∙ ap (λ b. cond b true (list_any (is_at (granted_cmp (key user k))) before.keys)) (at_granted granted (key user k))
    ∙ ap (λ b. cond (same_granted granted (key user k)) true b) (contains_by before.keys (key user k))
    ∙ either (same_granted granted (key user k)) (has_by before.keys user k)

pub set_lost_by : (before after : BTreeSet Granted) (granted : Granted) → Updates granted_cmp before after granted false → HasLostBy granted before.keys after.keys
set_lost_by before after granted updates = λ user k.
    sym (contains_by after.keys (key user k)) ∙ updates.0 (key user k)
    ∙ ap (λ b. cond b false (list_any (is_at (granted_cmp (key user k))) before.keys)) (at_granted granted (key user k))
    ∙ ap (λ b. cond (same_granted granted (key user k)) false b) (contains_by before.keys (key user k))
    ∙ both (same_granted granted (key user k)) (has_by before.keys user k)

or-assoc : (a b c : Bool) → (a || (b || c)) ≡ ((a || b) || c)
or-assoc true b c = refl
or-assoc false b c = refl

or-none : (a : Bool) → (a || false) ≡ a
or-none true = refl
or-none false = refl

and-over : (a b c : Bool) → ((a && c) || (b && c)) ≡ ((a || b) && c)
and-over true true true = refl
and-over true true false = refl
and-over true false true = refl
and-over true false false = refl
and-over false b c = refl

pub by-append : (first second : List Granted) (user k : ℕ) → has_by (first ++ second) user k ≡ (has_by first user k || has_by second user k)
by-append [] second user k = refl
by-append (x ∷ first) second user k =
    ap (λ b. same_granted x (key user k) || b) (by-append first second user k)
    ∙ or-assoc (same_granted x (key user k)) (has_by first user k) (has_by second user k)

-- a set of which a part has one more
pub gained_by : (one : List Granted) (before after : BTreeSet Granted) (granted : Granted) → Updates granted_cmp before after granted true
    → HasGainedBy granted (one ++ before.keys) (one ++ after.keys)
gained_by one before after granted updates = λ user k.
    by-append one after.keys user k
    ∙ ap (λ b. has_by one user k || b) (set_gained before after granted updates user k)
    ∙ or-assoc (has_by one user k) (has_by before.keys user k) (same_granted granted (key user k))
    ∙ ap (λ b. b || same_granted granted (key user k)) (sym (by-append one before.keys user k))

-- or is the first
pub gained_first : (none : Option Granted) (others : List Granted) (granted : Granted) → none ≡ None
    → HasGainedBy granted (option_to_list none ++ others) (granted ∷ others)
gained_first (Some it) others granted is = absurd (cc)
gained_first None others granted is = λ user k. turned (same_granted granted (key user k)) (has_by others user k)
  where
    turned : (a b : Bool) → (a || b) ≡ (b || a)
    turned true true = refl
    turned true false = refl
    turned false true = refl
    turned false false = refl

-- or of which both parts have lost one
pub lost_by : (one one-after others after : List Granted) (granted : Granted) → HasLostBy granted one one-after → HasLostBy granted others after
    → HasLostBy granted (one ++ others) (one-after ++ after)
lost_by one one-after others after granted first second = λ user k.
    let here = not (same_granted granted (key user k)) in
    by-append one-after after user k
    ∙ ap (λ b. b || has_by after user k) (first user k)
    ∙ ap (λ b. (has_by one user k && here) || b) (second user k)
    ∙ and-over (has_by one user k) (has_by others user k) here
    ∙ ap (λ b. b && here) (sym (by-append one others user k))

-- one that is this one, or isn't
pub without_same : (it granted : Granted) → same_granted it granted ≡ true → HasLostBy granted (it ∷ []) []
without_same it granted is = λ user k.
    let parts = and_parts (it.grantor == granted.grantor) (it.slot == granted.slot) is in
    let same : same_granted it (key user k) ≡ same_granted granted (key user k) =
    ap (λ n. (n == user) && (it.slot == k)) (eqb-true it.grantor granted.grantor parts.0)
    ∙ ap (λ n. (granted.grantor == user) && (n == k)) (eqb-true it.slot granted.slot parts.1) in
    sym (ap (λ b. (b || false) && not (same_granted granted (key user k))) same ∙ gone (same_granted granted (key user k)))
  where
    gone : (b : Bool) → ((b || false) && not b) ≡ false
    gone true = refl
    gone false = refl

pub without_other : (it granted : Granted) → same_granted it granted ≡ false → HasLostBy granted (it ∷ []) (it ∷ [])
without_other it granted apart = λ user k.
    by_cases (same_granted granted (key user k))
    (λ here.
    let parts = and_parts (granted.grantor == user) (granted.slot == k) here in
    let lacks : same_granted it (key user k) ≡ false =
    sym (ap (λ n. (it.grantor == n) && (it.slot == granted.slot)) (eqb-true granted.grantor user parts.0)
    ∙ ap (λ n. (it.grantor == user) && (it.slot == n)) (eqb-true granted.slot k parts.1)) ∙ apart in
    rw lacks refl)
    (λ there. rw there (sym (kept (same_granted it (key user k) || false))))
  where
    kept : (b : Bool) → (b && true) ≡ b
    kept true = refl
    kept false = refl

-- what two searches find
module _ (p q : ℕ → Bool) (from : ℕ) where
  pub first_none : (other : Option ℕ) → IsFirst p from None → IsFirst q from other → IsFirst (λ k. p k || q k) from other
  first_none None none is = λ k low. rw (none k low) (is k low)
  first_none (Some j) none is = (is.0, rw (none j is.0) is.1, λ k low less. rw (none k low) (is.2 k low less))

  pub first_less : (i j : ℕ) → j < i → IsFirst p from (Some i) → IsFirst q from (Some j) → IsFirst (λ k. p k || q k) from (Some j)
  first_less i j less first second =
      (second.0, rw (first.2 j second.0 less) second.1, λ k low under. rw (first.2 k low (omega (arith, less, under))) (second.2 k low under))

  pub first_kept : (i : ℕ) (other : Option ℕ) → ((j : ℕ) → other ≡ Some j → i ≤ j) → IsFirst p from (Some i) → IsFirst q from other
      → IsFirst (λ k. p k || q k) from (Some i)
  first_kept i None above first second = (first.0, rw first.1 refl, λ k low less. rw (first.2 k low less) (second k low))
  first_kept i (Some j) above first second =
      let le = above j refl in
      (first.0, rw first.1 refl, λ k low less. rw (first.2 k low less) (second.2 k low (omega (arith, le, less))))

-- the one slot, where it is by the user and isn't below
pub one_by : (it : Granted) (user from : ℕ) → (it.grantor == user) ≡ true → from ≤ it.slot → IsFirst (has_by (it ∷ []) user) from (Some it.slot)
one_by it user from by le = (le, rw (by, same it.slot) refl, λ k low less. rw (apart k less) (none (it.grantor == user)))
  where
    same : (n : ℕ) → (n == n) ≡ true
    same n = grind (arith, nat_tests)

    apart : (k : ℕ) → k < it.slot → (it.slot == k) ≡ false
    apart k less = grind (arith, nat_tests, less)

    none : (b : Bool) → ((b && false) || false) ≡ false
    none true = refl
    none false = refl

-- and where it is not
pub none_by : (it : Granted) (user from : ℕ) → ((it.grantor == user) ≡ true → from ≤ it.slot → ⊥) → IsFirst (has_by (it ∷ []) user) from None
none_by it user from neither = λ k low.
    by_cases (same_granted it (key user k))
    (λ here.
    let parts = and_parts (it.grantor == user) (it.slot == k) here in
    let at : it.slot ≡ k = eqb-true it.slot k parts.1 in
    absurd (neither parts.0 (omega (arith, at, low))))
    (λ there. rw there refl)

cmp_equal : (x y : ℕ) → ltb x y ≡ false → eqb x y ≡ true → nat_cmp x y ≡ Equal
cmp_equal x y not-less same = rw (not-less, same) refl

cmp_greater : (x y : ℕ) → ltb x y ≡ false → eqb x y ≡ false → nat_cmp x y ≡ Greater
cmp_greater x y not-less apart = rw (not-less, apart) refl

-- what isn't above another is by an earlier user, or by the same one and not above
le_parts : (a b : Granted) → is_gt (granted_cmp a b) ≡ false → (a.grantor < b.grantor) ⊎ ((a.grantor ≡ b.grantor) × (a.slot ≤ b.slot))
le_parts a b is =
    by_cases (ltb a.grantor b.grantor)
    (λ less. inl (less_true a.grantor b.grantor less))
    (λ not-less.
    by_cases (eqb a.grantor b.grantor)
    (λ same.
    inr (
      eqb-true a.grantor b.grantor same,
      le_from_not_gt a.slot b.slot
          (ap (λ o. is_gt (ordering_then o (nat_cmp a.slot b.slot))) (sym (cmp_equal a.grantor b.grantor not-less same)) ∙ is),
    ))
    (λ apart.
    absurd (true≢false (ap (λ o. is_gt (ordering_then o (nat_cmp a.slot b.slot))) (sym (cmp_greater a.grantor b.grantor not-less apart)) ∙ is))))

in_order : (user from k : ℕ) → from ≤ k → is_gt (granted_cmp (key user from) (key user k)) ≡ false
in_order user from k le =
    ap (λ o. is_gt (ordering_then o (nat_cmp from k))) (cmp_equal user user (not_less user) (same user)) ∙ not_gt
  where
    not_less : (n : ℕ) → ltb n n ≡ false
    not_less n = grind (arith, nat_tests)

    same : (n : ℕ) → eqb n n ≡ true
    same n = grind (arith, nat_tests)

    not_gt : is_gt (nat_cmp from k) ≡ false
    not_gt = grind (arith, nat_tests, le)

-- the first of the slots from one on tells the next of the user
pub next_in : (set : BTreeSet Granted) (range : List Granted) (user from : ℕ) (found : Option ℕ)
    → IsKeyRangeOf granted_cmp (Included (key user from)) Unbounded set range → IsFirst (has_by (option_to_list (slice_get range 0)) user) from found
    → IsFirst (has_by set.keys user) from found
next_in set [] user from (Some i) told is = absurd (true≢false (sym is.1))
next_in set [] user from None told is = λ k low. sym (contains_by set.keys (key user k)) ∙ told.5 refl (key user k) (in_order user from k low, tt)
next_in set (x ∷ range) user from found told is = by_found found is
  where
    -- a slot of the user in the set lies at or above the first, which then is the user's too
    above : (k : ℕ) → from ≤ k → has_by set.keys user k ≡ true → (x.grantor ≡ user) × (from ≤ x.slot) × (x.slot ≤ k)
    above k low has =
        let low-x = le_parts (key user from) x told.1.0.0 in
        let x-k = le_parts x (key user k) (told.2 (key user k) (in_order user from k low, tt) (contains_by set.keys (key user k) ∙ has)) in
        elim low-x [
          | inl under ↦ elim x-k [ inl over ↦ absurd (omega (arith, under, over)) | inr over ↦ let at = over.0 in absurd (omega (arith, under, at)) ]
          | inr under ↦ elim x-k [
            | inl over ↦ let at = under.0 in absurd (omega (arith, over, at))
            | inr over ↦ (over.0, under.1, over.1)
          ]
        ]

    here : (k : ℕ) → x.grantor ≡ user → has_by (x ∷ []) user x.slot ≡ true
    here k by = rw (same_n x.grantor user by, same_n x.slot x.slot refl) refl
      where
        same_n : (n m : ℕ) → n ≡ m → (n == m) ≡ true
        same_n n m is = grind (arith, nat_tests, is)

    by_found : (found : Option ℕ) → IsFirst (has_by (x ∷ []) user) from found → IsFirst (has_by set.keys user) from found
    by_found None none = λ k low.
        by_cases (has_by set.keys user k)
        (λ has. let at = above k low has in absurd (true≢false (sym (here k at.0) ∙ none x.slot at.1)))
        (λ lacks. lacks)
    by_found (Some i) some = (
      some.0,
      there,
      λ k low less.
          by_cases (has_by set.keys user k)
          (λ has. let at = above k low has in let le = at.2 in absurd (omega (arith, le, less, same_i)))
          (λ lacks. lacks),
    )
      where
        parts : ((x.grantor == user) ≡ true) × ((x.slot == i) ≡ true)
        parts = and_parts (x.grantor == user) (x.slot == i) (sym (or-none (same_granted x (key user i))) ∙ some.1)

        same_i : x.slot ≡ i
        same_i = eqb-true x.slot i parts.1

        there : has_by set.keys user i ≡ true
        there =
            ap (λ n. has_by set.keys n i) (sym (eqb-true x.grantor user parts.0)) ∙ ap (λ n. has_by set.keys x.grantor n) (sym same_i)
            ∙ sym (contains_by set.keys x) ∙ told.1.1

-- what is found by an iterator over them
pub item_of : (range rest : List Granted) (item : Option (Bor Granted)) → TakesFirst (deref {X = Granted}) range item rest → option_copied item ≡ slice_get range 0
item_of range rest None taken = ap (λ (slots : List Granted). slice_get slots 0) (sym taken.0)
item_of range rest (Some item) taken = ap (λ (slots : List Granted). slice_get slots 0) (sym taken)
