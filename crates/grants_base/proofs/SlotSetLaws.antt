-- A set of slots with one more, with one less, and from one on.
use Rattle.std.proofs.Common.{◌≡◌, ℕ, ◌<◌, ◌≤◌, ◌&&◌, ◌||◌, not, Bool, true, false, cond, List, [], ◌∷◌, ◌++◌, Option, Some, None, refl, sym, ◌∙◌, ap, subst, arith, inl, inr, eqb, eq-eqb}
use Rattle.std.specs.Prelude.{◌==◌, All, IfNone, IfSome, IsTrue, slice_get}
use Rattle.std.specs.List.{list_any}
use Rattle.std.specs.Option.{option_copied, option_eq, option_to_list}
use Rattle.std.specs.Ordering.{is_gt, nat_cmp}
use Rattle.std.specs.Borrow.{Bor}
use Rattle.std.specs.Map.Iter.{TakesFirst, deref}
use Rattle.std.specs.declared.ops.Bound.TheVariants.{Included, Unbounded}
use Rattle.std.specs.BTreeMap.{is_at}
use Rattle.std.specs.BTreeSet.{BTreeSet, IsKeyRangeOf, Updates}
use Rattle.std.proofs.lemmas.Bool.{cases_lt, eqb-true, ne_eqb, or_right}
use Rattle.std.proofs.lemmas.Bool.Decides.{nat_tests}
use Rattle.std.proofs.lemmas.Map.Keys.{le_from_not_gt}
use Rattle.std.proofs.lemmas.List.Elements.{All-cons, All-nil}
use Rattle.model_base.proofs.Replay.{by_cases}
use Rattle.grants_base.specs.Index.{IsFirst, is_one_of}
use Rattle.grants_base.specs.SlotSet.{AreAbove, HasGained, HasLost}
use Rattle.grants_base.proofs.SlotsLaws.{first_at, none_under}

is_at-same : (slot key : ℕ) → is_at (nat_cmp slot) key ≡ (key == slot)
is_at-same slot key = grind (arith, nat_tests)

is_at-as : (slot key : ℕ) → is_at (nat_cmp slot) key ≡ (slot == key)
is_at-as slot key = grind (arith, nat_tests)

-- whether the set has the number
pub contains_one : (numbers : List ℕ) (number : ℕ) → list_any (is_at (nat_cmp number)) numbers ≡ is_one_of numbers number
contains_one [] number = refl
contains_one (key ∷ numbers) number = rw (is_at-same number key, contains_one numbers number) refl

-- a set after a slot was put into it
pub set_gained : (before after : BTreeSet ℕ) (slot : ℕ) → Updates nat_cmp before after slot true → HasGained slot before.keys after.keys
set_gained before after slot updates k = sym (contains_one after.keys k) ∙ updates.0 k ∙ put
  where
    put : cond (is_at (nat_cmp slot) k) true (list_any (is_at (nat_cmp k)) before.keys) ≡ (is_one_of before.keys k || (slot == k))
    put =
        ap (λ b. cond b true (list_any (is_at (nat_cmp k)) before.keys)) (is_at-as slot k)
        ∙ ap (λ b. cond (slot == k) true b) (contains_one before.keys k)
        ∙ either (slot == k) (is_one_of before.keys k)
      where
        either : (here has : Bool) → cond here true has ≡ (has || here)
        either true true = refl
        either true false = refl
        either false true = refl
        either false false = refl

-- and after it was taken out
pub set_lost : (before after : BTreeSet ℕ) (slot : ℕ) → Updates nat_cmp before after slot false → HasLost slot before.keys after.keys
set_lost before after slot updates k = sym (contains_one after.keys k) ∙ updates.0 k ∙ taken
  where
    taken : cond (is_at (nat_cmp slot) k) false (list_any (is_at (nat_cmp k)) before.keys) ≡ (is_one_of before.keys k && not (slot == k))
    taken =
        ap (λ b. cond b false (list_any (is_at (nat_cmp k)) before.keys)) (is_at-as slot k)
        ∙ ap (λ b. cond (slot == k) false b) (contains_one before.keys k)
        ∙ both (slot == k) (is_one_of before.keys k)
      where
        both : (here has : Bool) → cond here false has ≡ (has && not here)
        both true true = refl
        both true false = refl
        both false true = refl
        both false false = refl

or-assoc : (a b c : Bool) → (a || (b || c)) ≡ ((a || b) || c)
or-assoc true b c = refl
or-assoc false b c = refl

-- the whole set, of whose others one is more
pub whole_gained : (least : Option ℕ) (slot : ℕ) (old new : List ℕ) → HasGained slot old new → HasGained slot (option_to_list least ++ old) (option_to_list least ++ new)
whole_gained None slot old new gained k = gained k
whole_gained (Some low) slot old new gained k = ap (λ b. (low == k) || b) (gained k) ∙ or-assoc (low == k) (is_one_of old k) (slot == k)

-- or one less, which isn't the least
pub whole_lost : (least : Option ℕ) (slot : ℕ) (old new : List ℕ) → HasLost slot old new → (least ≡ Some slot → ⊥) → HasLost slot (option_to_list least ++ old) (option_to_list least ++ new)
whole_lost None slot old new lost apart k = lost k
whole_lost (Some low) slot old new lost apart k =
    ap (λ b. (low == k) || b) (lost k)
    ∙ by_cases (low == k)
    (λ here.
    let other : (slot == k) ≡ false = ne_eqb slot k (λ same. apart (ap (λ (n : ℕ). Some n) (eqb-true low k here ∙ sym same))) in
    rw (here, other) refl)
    (λ there. rw there refl)

-- all that are in a list lie above
above_all : (low : ℕ) (numbers : List ℕ) → ((k : ℕ) → is_one_of numbers k ≡ true → low < k) → All (λ other. low < other) numbers
above_all low [] above = All-nil (λ other. low < other)
above_all low (n ∷ numbers) above =
    All-cons (λ other. low < other) n numbers (above n (rw (eq-eqb n n refl) refl)) (above_all low numbers (λ k is. above k (or_right (n == k) (is_one_of numbers k) is)))

-- each that is in a list of which all lie above
pub above_one : (low : ℕ) (numbers : List ℕ) (k : ℕ) → All (λ other. low < other) numbers → is_one_of numbers k ≡ true → low < k
above_one low numbers k above is =
    elim (cases_lt low k) [
      | inl less ↦ less
      | inr more ↦ absurd (true_false (sym is ∙ none_under numbers low k above more))
    ]
  where
    true_false : true ≡ false → ⊥
    true_false same = cc

-- what lies above the least lies above what is lower
pub above_least : (low least : ℕ) (others : List ℕ) → low < least → All (λ other. least < other) others → All (λ other. low < other) others
above_least low least others less above = above_all low others (λ k is. let more = above_one least others k above is in omega (arith, less, more))

-- the others lie above with one more above
pub above_gained : (low slot : ℕ) (old new : List ℕ) → HasGained slot old new → low < slot → All (λ other. low < other) old → All (λ other. low < other) new
above_gained low slot old new gained less above =
    above_all low new
    (λ k is.
    by_cases (slot == k)
    (λ here. let same : slot ≡ k = eqb-true slot k here in omega (arith, same))
    (λ there. above_one low old k above (was (is_one_of old k) (slot == k) (sym (gained k) ∙ is) there)))
  where
    was : (has here : Bool) → (has || here) ≡ true → here ≡ false → has ≡ true
    was true here is there = refl
    was false true is there = absurd (cc)
    was false false is there = is

has_both : (has here : Bool) → (has && not here) ≡ true → has ≡ true
has_both true here is = refl
has_both false here is = is

-- and with one less
pub above_lost : (least : Option ℕ) (slot : ℕ) (old new : List ℕ) → HasLost slot old new → AreAbove least old → AreAbove least new
above_lost None slot old new lost none = nothing new (λ k. lost k ∙ ap (λ (numbers : List ℕ). is_one_of numbers k && not (slot == k)) none)
  where
    nothing : (numbers : List ℕ) → ((k : ℕ) → is_one_of numbers k ≡ false) → numbers ≡ []
    nothing [] all = refl
    nothing (n ∷ numbers) all = absurd (here (sym (all n)))
      where
        here : false ≡ is_one_of (n ∷ numbers) n → ⊥
        here is = let same : (n == n) ≡ true = eq-eqb n n refl in let found : is_one_of (n ∷ numbers) n ≡ true = rw same refl in absurd (cc)
above_lost (Some low) slot old new lost above = above_all low new (λ k is. above_one low old k above (has_both (is_one_of old k) (slot == k) (sym (lost k) ∙ is)))

-- the set without its least slot
pub least_lost : (slot : ℕ) (others : List ℕ) → All (λ other. slot < other) others → HasLost slot (slot ∷ others) others
least_lost slot others above k =
    by_cases (slot == k)
    (λ here. let same : slot ≡ k = eqb-true slot k here in rw (here, none_under others slot k above (omega (arith, same))) refl)
    (λ there. rw there (kept (is_one_of others k)))
  where
    kept : (has : Bool) → has ≡ (has && true)
    kept true = refl
    kept false = refl

-- the first slot where the least isn't below
pub first_least : (least : Option ℕ) (others : List ℕ) (from : ℕ) → AreAbove least others → ((low : ℕ) → least ≡ Some low → from ≤ low)
    → IsFirst (is_one_of (option_to_list least ++ others)) from least
first_least None others from none low = subst (λ (all : List ℕ). IsFirst (is_one_of all) from None) (sym none) (λ k above. refl)
first_least (Some x) others from above low = first_at x others from above (low x refl)

not_gt : (a b : ℕ) → a ≤ b → is_gt (nat_cmp a b) ≡ false
not_gt a b le = grind (arith, nat_tests, le)

is_true : (b : Bool) → IsTrue b → b ≡ true
is_true true is = refl
is_true false is = absurd (cc)

to_true : (b : Bool) → b ≡ true → IsTrue b
to_true b is = is

-- the slots from one on begin with the first of them
pub first_in : (from : ℕ) (set : BTreeSet ℕ) (range : List ℕ) → IsKeyRangeOf nat_cmp (Included from) Unbounded set range → IsFirst (is_one_of set.keys) from (slice_get range 0)
first_in from set [] told = λ k low. sym (contains_one set.keys k) ∙ told.5 refl k (not_gt from k low, tt)
first_in from set (x ∷ range) told = (
  le_from_not_gt from x told.1.0.0,
  sym (contains_one set.keys x) ∙ is_true (list_any (is_at (nat_cmp x)) set.keys) told.1.1,
  λ k low less.
      by_cases (is_one_of set.keys k)
      (λ has.
      let le : x ≤ k = le_from_not_gt x k (told.2 k (not_gt from k low, tt) (to_true (list_any (is_at (nat_cmp k)) set.keys) (contains_one set.keys k ∙ has))) in
      absurd (omega (arith, le, less)))
      (λ lacks. lacks),
)

-- what is found by an iterator over them
pub item_of : (range rest : List ℕ) (item : Option (Bor ℕ)) → TakesFirst (deref {X = ℕ}) range item rest → option_copied item ≡ slice_get range 0
item_of range rest None taken = ap (λ (slots : List ℕ). slice_get slots 0) (sym taken.0)
item_of range rest (Some item) taken = ap (λ (slots : List ℕ). slice_get slots 0) (sym taken)

-- the least of the others, and the rest, are the others
pub popped_left : (popped : Option ℕ) (old new : List ℕ) → IfSome popped (λ k. old ≡ k ∷ new) → IfNone popped (new ≡ old) → old ≡ option_to_list popped ++ new
popped_left None old new some none = sym none
popped_left (Some k) old new some none = some

-- the least of the others takes the place of the least
pub popped_lost : (slot : ℕ) (least popped : Option ℕ) (old new : List ℕ) → least ≡ Some slot → AreAbove least old
    → IfSome popped (λ k. old ≡ k ∷ new) → IfNone popped (new ≡ old) → HasLost slot (option_to_list least ++ old) (option_to_list popped ++ new)
popped_lost slot (Some low) popped old new is above some none =
    subst (λ (rest : List ℕ). HasLost slot (low ∷ old) rest) (popped_left popped old new some none)
    (subst (λ (n : ℕ). HasLost slot (n ∷ old) old) (sym same) (least_lost slot old (subst (λ (n : ℕ). All (λ other. n < other) old) same above)))
  where
    same : low ≡ slot
    same = cc
popped_lost slot None popped old new is above some none = absurd (cc)

-- and is the next of the slots that are left, of which each lies above
pub taken_first : (slot : ℕ) (least popped : Option ℕ) (old new : List ℕ) → least ≡ Some slot → IfSome popped (λ k. old ≡ k ∷ new) → IfNone popped (new ≡ old)
    → (option_to_list least ++ old) ≡ slot ∷ (option_to_list popped ++ new)
taken_first slot least popped old new is some none = rw is (ap (λ rest. slot ∷ rest) (popped_left popped old new some none))

pub taken_above : (slot : ℕ) (least popped : Option ℕ) (old new : List ℕ) → least ≡ Some slot → AreAbove least old → IfSome popped (λ k. old ≡ k ∷ new) → IfNone popped (new ≡ old)
    → All (λ other. slot < other) (option_to_list popped ++ new)
taken_above slot least popped old new is above some none =
    subst (λ (rest : List ℕ). All (λ other. slot < other) rest) (popped_left popped old new some none) (subst (λ (first : Option ℕ). AreAbove first old) is above)

-- nothing lies above where there is no least slot
pub none_left : (least : Option ℕ) (others : List ℕ) → least ≡ None → AreAbove least others → (option_to_list least ++ others) ≡ []
none_left least others is above = rw is (subst (λ (first : Option ℕ). AreAbove first others) is above)

-- what `==` says of the least slot
pub least_same : (least : Option ℕ) (slot : ℕ) → true ≡ option_eq eqb least (Some slot) → least ≡ Some slot
least_same None slot is = absurd (cc)
least_same (Some low) slot is = ap (λ (n : ℕ). Some n) (eqb-true low slot (sym is))

pub least_apart : (least : Option ℕ) (slot : ℕ) → false ≡ option_eq eqb least (Some slot) → least ≡ Some slot → ⊥
least_apart None slot is same = cc
least_apart (Some low) slot is same = let here : (low == slot) ≡ true = eq-eqb low slot cc in absurd (cc)
