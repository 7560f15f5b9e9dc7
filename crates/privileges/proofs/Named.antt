-- A set of users as the list of holders.
use Rattle.std.proofs.Common.{◌≡◌, ℕ, ◌<◌, ◌+◌, ◌&&◌, ◌||◌, ◌++◌, not, Bool, true, false, List, [], ◌∷◌, Option, Some, None, zero, suc, length, get_or, take, refl, sym, ◌∙◌, ap, arith, eq-eqb}
use Rattle.std.specs.Prelude.{◌==◌, Contains, slice_get}
use Rattle.std.specs.List.{list_any}
use Rattle.std.specs.List.Sorted.{IsStrictlySortedBy}
use Rattle.std.specs.Ordering.{nat_cmp}
use Rattle.std.specs.Option.{option_map_or}
use Rattle.std.proofs.lemmas.Bool.{eqb-true}
use Rattle.std.proofs.lemmas.List.{take_more}
use Rattle.std.proofs.lemmas.List.Folds.{list_any-append, list_any-from_Any}
use Rattle.std.proofs.lemmas.Map.Keys.{below_from_sorted}
use Rattle.model_base.specs.declared.deed.Deed.{Deed}
use Rattle.model_base.specs.declared.deed.Need.{Need}
use Rattle.model_base.specs.declared.deed.Record.{Record}
use Rattle.model_base.specs.Privileges.{deeds_below, owns}
use Rattle.model_base.specs.Records.{is_in_force_at}
use Rattle.model_base.proofs.Replay.{by_cases}
use Rattle.grants_base.specs.Book.{Entries, ShowsBook, owners_of}
use Rattle.grants_base.specs.Index.{is_one_of}
use Rattle.grants_base.specs.SlotSet.{HasGained, HasLost}
use Rattle.privileges.specs.Holders.{AreHolders, gives_by_name, is_holder}
use Rattle.privileges.proofs.Told.{any_kept, owns_at}

-- the test and the fact that a number is among some
one_contains : (numbers : List ℕ) (number : ℕ) → is_one_of numbers number ≡ true → Contains numbers number
one_contains [] number is = absurd (cc)
one_contains (first ∷ numbers) number is =
    by_cases (first == number)
    (λ here. (0, omega arith, eqb-true first number here))
    (λ other.
    let later : is_one_of numbers number ≡ true = rw other at is in
    let found = one_contains numbers number later in
    (suc found.0, omega (arith, found.1), found.2))

contains_one : (numbers : List ℕ) (number : ℕ) → Contains numbers number → is_one_of numbers number ≡ true
contains_one [] number (k, less, is) = absurd (omega arith)
contains_one (first ∷ numbers) number (zero, less, is) = rw (eq-eqb first number is) refl
contains_one (first ∷ numbers) number (suc k, less, is) = or_later (first == number) (is_one_of numbers number) (contains_one numbers number (k, omega arith, is))
  where
    or_later : (a b : Bool) → b ≡ true → (a || b) ≡ true
    or_later true b is = refl
    or_later false b is = is

swapped : (named own : Bool) → (named && not own) ≡ (not own && named)
swapped true true = refl
swapped true false = refl
swapped false true = refl
swapped false false = refl

-- the users named by the grants in force, without the owner, are the holders
pub are_holders : (book : Entries) (owners : List ℕ) (deeds : List Deed) (place owner : ℕ) (need : Need) (named others : List ℕ)
    → ShowsBook book owners deeds → need.table < length book.tables → slice_get (owners_of book.tables) need.table ≡ Some owner
    → ((user : ℕ) → is_one_of named user ≡ list_any (λ (entry : Record). is_in_force_at place entry && gives_by_name entry.grant user need) book.records)
    → HasLost owner named others → IsStrictlySortedBy nat_cmp others
    → AreHolders owners (deeds_below place deeds) need others
are_holders book owners deeds place owner need named others shows less owned tells lost sorted = record {
  rising = λ k less'. below_from_sorted others k (k + 1) 0 sorted (omega arith) less';
  all = λ user. (λ among. sym (same user) ∙ contains_one others user among, λ holder. one_contains others user (same user ∙ holder));
}
  where
    same : (user : ℕ) → is_one_of others user ≡ is_holder owners (deeds_below place deeds) need user
    same user =
        lost user
        ∙ swapped (is_one_of named user) (owner == user)
        ∙ ap (λ b. not b && is_one_of named user) (sym (owns_at book owners deeds user need.table owner shows less owned))
        ∙ ap (λ b. not (owns owners user need.table) && b) (tells user ∙ sym (any_kept (λ grant. gives_by_name grant user need) book owners deeds place shows))

-- one more of the records so far
pub any_more : {X : Type 0} (passes : X → Bool) (items : List X) (i : ℕ) (item : X) → i < length items → item ≡ get_or items i item
    → list_any passes (take (i + 1) items) ≡ (list_any passes (take i items) || passes item)
any_more passes items i item less is =
    ap (list_any passes) (take_more items i item less ∙ ap (λ next. take i items ++ next ∷ []) (sym is))
    ∙ list_any-append passes (take i items) (item ∷ [])
    ∙ ap (λ b. list_any passes (take i items) || b) (or_false (passes item))
  where
    or_false : (b : Bool) → (b || false) ≡ b
    or_false true = refl
    or_false false = refl

pub any_here : {X : Type 0} (passes : X → Bool) (items : List X) (i : ℕ) (item : X) → i < length items → item ≡ get_or items i item → passes item ≡ true
    → list_any passes items ≡ true
any_here passes items i item less is holds = list_any-from_Any passes items (i, item, less, sym is, holds)

-- the user whom one more record names, if it names one, is one more
pub named_more : (named : ℕ → Record → Bool) (records : List Record) (i : ℕ) (entry : Record) (before after : List ℕ) (holder : Option ℕ)
    → i < length records → entry ≡ get_or records i entry
    → ((user : ℕ) → option_map_or (λ it. it == user) holder false ≡ named user entry)
    → ((user : ℕ) → is_one_of before user ≡ list_any (named user) (take i records))
    → ((user : ℕ) → is_one_of after user ≡ (is_one_of before user || option_map_or (λ it. it == user) holder false))
    → (user : ℕ) → is_one_of after user ≡ list_any (named user) (take (i + 1) records)
named_more named records i entry before after holder less is names told gained user =
    gained user
    ∙ ap (λ b. b || option_map_or (λ it. it == user) holder false) (told user)
    ∙ ap (λ b. list_any (named user) (take i records) || b) (names user)
    ∙ sym (any_more (named user) records i entry less is)

pub gained_one : (before after : List ℕ) (holder : Option ℕ) (user : ℕ) → holder ≡ Some user → HasGained user before after
    → (other : ℕ) → is_one_of after other ≡ (is_one_of before other || option_map_or (λ it. it == other) holder false)
gained_one before after holder user is gained other =
    gained other ∙ ap (λ (it : Option ℕ). is_one_of before other || option_map_or (λ n. n == other) it false) (sym is)

pub gained_none : (before : List ℕ) (holder : Option ℕ) → holder ≡ None
    → (other : ℕ) → is_one_of before other ≡ (is_one_of before other || option_map_or (λ it. it == other) holder false)
gained_none before holder is other =
    sym (or_false (is_one_of before other)) ∙ ap (λ (it : Option ℕ). is_one_of before other || option_map_or (λ n. n == other) it false) (sym is)
  where
    or_false : (b : Bool) → (b || false) ≡ b
    or_false true = refl
    or_false false = refl
