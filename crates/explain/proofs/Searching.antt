-- What the first grants of a view give, and the path by them.
use Rattle.std.proofs.Common.{◌≡◌, ℕ, zero, suc, ◌<◌, ◌≤◌, ◌&&◌, true, false, List, [], ◌∷◌, ◌++◌, Option, Some, None, is_none, take, refl, sym, ◌∙◌, ap, arith, inl, inr}
use Rattle.std.specs.Prelude.{IfSome, slice_get}
use Rattle.std.specs.List.{flat_map, list_any}
use Rattle.std.specs.Option.{option_to_list}
use Rattle.std.proofs.lemmas.Bool.{and_parts, cases_lt}
use Rattle.model_base.specs.declared.deed.Grant.{Grant}
use Rattle.model_base.specs.declared.deed.Grantee.{Grantee}
use Rattle.model_base.specs.declared.deed.Grantee.TheVariants.{Public, User}
use Rattle.model_base.specs.declared.deed.Need.{Need}
use Rattle.model_base.specs.declared.deed.Record.{Record}
use Rattle.model_base.specs.Paths.{path}
use Rattle.model_base.specs.Privileges.{gives, has, owns, same_grantee}
use Rattle.model_base.specs.Records.{in_force}
use Rattle.model_base.proofs.Paths.{path-earliest, path-none}
use Rattle.model_base.proofs.Replay.{by_cases}
use Rattle.grants_base.specs.Index.{AreAsked, IsNext, is_to}
use Rattle.grants_base.specs.View.{View, flatten, slot_at, slot_gives}
use Rattle.grants.specs.Loss.{narrowed, only_to}
use Rattle.grants.proofs.Found.{idle}
use Rattle.grants.proofs.Narrow.{slot_at-narrowed, slot_gives-parts, slot_gives-public}
use Rattle.grants.proofs.Passing.{given}
use Rattle.explain.specs.declared.paths.Giving.{Giving}
use Rattle.explain.specs.Steps.{IsFirstGiving, IsLastOfPath, giving_in, slot_or, stood}

-- a slot whose grant isn't found gives nothing
pub none_giving : (slot : Option Record) (user : ℕ) (need : Need) → None ≡ giving_in slot user need → slot_gives slot user need ≡ false
none_giving None user need is = refl
none_giving (Some entry) user need is =
    by_cases (is_none entry.end && gives entry.grant user need)
    (λ gave. let some : None ≡ Some entry.grant = rw gave at is in absurd (cc))
    (λ none. none)

-- one that is found is in its slot, and gives what is needed
pub record IsGiven (slot : Option Record) (user : ℕ) (need : Need) (grant : Grant) : Type 0 where
  pub entry : Record
  pub there : slot ≡ Some entry
  pub unended : is_none entry.end ≡ true
  pub same : entry.grant ≡ grant
  pub given : gives grant user need ≡ true

pub is_given : (slot : Option Record) (user : ℕ) (need : Need) (grant : Grant) → giving_in slot user need ≡ Some grant → IsGiven slot user need grant
is_given None user need grant is = absurd (cc)
is_given (Some entry) user need grant is =
    by_cases (is_none entry.end && gives entry.grant user need)
    (λ gave.
    let found : Some entry.grant ≡ Some grant = rw gave at is in
    let same : entry.grant ≡ grant = cc in
    let parts = and_parts (is_none entry.end) (gives entry.grant user need) gave in
    record { entry = entry; there = refl; unended = parts.0; same = same; given = ap (λ (g : Grant). gives g user need) (sym same) ∙ parts.1 })
    (λ none. let nothing : None ≡ Some grant = rw none at is in absurd (cc))

-- the slots below one that isn't found, from where the search stands, give nothing either
pub none_below : (grantee : Grantee) (view : View) (asked : List Grant) (user : ℕ) (need : Need) (from end : ℕ) (found : Option ℕ) → AreAsked view asked
    → IsNext (is_to grantee need.kind need.table) asked from found
    → ((slot : ℕ) → found ≡ Some slot → end ≤ slot)
    → ((k : ℕ) → k < from → slot_gives (slot_at (narrowed grantee view) k) user need ≡ false)
    → (k : ℕ) → k < end → slot_gives (slot_at (narrowed grantee view) k) user need ≡ false
none_below grantee view asked user need from end None are next above before k less =
    elim (cases_lt k from) [
      | inl under ↦ before k under
      | inr over ↦ (idle grantee view user need asked are from (suc k) (λ j low high. next j low)).gives k over (omega arith)
    ]
none_below grantee view asked user need from end (Some slot) are next above before k less =
    elim (cases_lt k from) [
      | inl under ↦ before k under
      | inr over ↦
          let far = above slot refl in
          (idle grantee view user need asked are from slot next.2).gives k over (omega arith)
    ]

-- what a part of a slot gives the slot gives
giving_whole : (grantee : Grantee) (slot : Option Record) (user : ℕ) (need : Need) (grant : Grant) → giving_in (only_to grantee slot) user need ≡ Some grant
    → giving_in slot user need ≡ Some grant
giving_whole grantee None user need grant is = is
giving_whole grantee (Some entry) user need grant is =
    by_cases (same_grantee entry.grant.grantee grantee)
    (λ to. rw to at is)
    (λ other. let none : None ≡ Some grant = rw other at is in absurd (cc))

module _ (view : View) (user : ℕ) (need : Need) where
  -- a slot of which neither part gives anything gives nothing
  neither : (k : ℕ) → slot_gives (slot_at (narrowed (User user) view) k) user need ≡ false → slot_gives (slot_at (narrowed Public view) k) user need ≡ false
      → slot_gives (slot_at view k) user need ≡ false
  neither k own other =
      let first : slot_gives (only_to (User user) (slot_at view k)) user need ≡ false = ap (λ slot. slot_gives slot user need) (sym (slot_at-narrowed (User user) view k)) ∙ own in
      let second : slot_gives (only_to Public (slot_at view k)) user need ≡ false = ap (λ slot. slot_gives slot user need) (sym (slot_at-narrowed Public view k)) ∙ other in
      sym (slot_gives-parts user need (slot_at view k)) ∙ rw (first, second) refl

  -- the part of grants to PUBLIC gives no option
  no_option : need.option ≡ true → (k : ℕ) → slot_gives (slot_at (narrowed Public view) k) user need ≡ false
  no_option option k = ap (λ slot. slot_gives slot user need) (slot_at-narrowed Public view k) ∙ slot_gives-public user need option (slot_at view k)

  -- the grant that one part gives the whole gives
  giving_at : (grantee : Grantee) (slot : ℕ) (grant : Grant) → giving_in (slot_at (narrowed grantee view) slot) user need ≡ Some grant
      → giving_in (slot_at view slot) user need ≡ Some grant
  giving_at grantee slot grant is =
      giving_whole grantee (slot_at view slot) user need grant (ap (λ s. giving_in s user need) (sym (slot_at-narrowed grantee view slot)) ∙ is)

  -- where PUBLIC gives nothing, the first that the user's own grants give is the first of all
  pub first_own : (end : ℕ) (own : Option Giving) → IsFirstGiving (narrowed (User user) view) user need end own
      → ((k : ℕ) → k < slot_or end own → slot_gives (slot_at (narrowed Public view) k) user need ≡ false) → IsFirstGiving view user need end own
  first_own end None first none = λ k less. neither k (first k less) (none k less)
  first_own end (Some found) first none =
      (first.0, giving_at (User user) found.slot found.grant first.1, λ k less. neither k (first.2 k less) (none k less))

  -- so with the option
  pub first_option : (end : ℕ) (own : Option Giving) → need.option ≡ true → IsFirstGiving (narrowed (User user) view) user need end own
      → IsFirstGiving view user need end own
  first_option end own option first = first_own end own first (λ k less. no_option option k)

  -- the user's own grants give nothing below the first that they give
  below_own : (end : ℕ) (own : Option Giving) → IsFirstGiving (narrowed (User user) view) user need end own
      → (k : ℕ) → k < slot_or end own → slot_gives (slot_at (narrowed (User user) view) k) user need ≡ false
  below_own end None first k less = first k less
  below_own end (Some found) first k less = first.2 k less

  -- and that lies within
  pub own_within : (end : ℕ) (own : Option Giving) → IsFirstGiving (narrowed (User user) view) user need end own → slot_or end own ≤ end
  own_within end None first = omega arith
  own_within end (Some found) first = let less = first.0 in omega arith

  -- one that PUBLIC gives below it comes first
  pub first_public : (end : ℕ) (own : Option Giving) (other : Giving) → IsFirstGiving (narrowed (User user) view) user need end own
      → IsFirstGiving (narrowed Public view) user need (slot_or end own) (Some other) → IsFirstGiving view user need end (Some other)
  first_public end own other first second =
      let within = own_within end own first in
      let less = second.0 in (
        omega arith,
        giving_at Public other.slot other.grant second.1,
        λ k low. neither k (below_own end own first k (omega arith)) (second.2 k low),
      )

module _ (user : ℕ) (need : Need) where
  -- slots that give nothing have no grant in force that does
  pub none_stood : (slots : List (Option Record)) (n : ℕ) → ((k : ℕ) → k < n → slot_gives (flatten (slice_get slots k)) user need ≡ false)
      → list_any (λ grant. gives grant user need) (in_force (flat_map option_to_list (take n slots))) ≡ false
  none_stood slots zero none = refl
  none_stood [] (suc n) none = refl
  none_stood (None ∷ slots) (suc n) none = none_stood slots n (λ k less. none (suc k) (omega arith))
  none_stood (Some entry ∷ slots) (suc n) none =
      let rest = none_stood slots n (λ k less. none (suc k) (omega arith)) in
      by_cases (is_none entry.end)
      (λ stands. let here : gives entry.grant user need ≡ false = rw stands at (none 0 (omega arith)) in rw (stands, here) rest)
      (λ ended. rw ended rest)

  -- the grants in force of some slots are those before one of them, its own, and those after it
  pub split_stood : (slots : List (Option Record)) (end slot : ℕ) (grant : Grant) → slot < end → giving_in (flatten (slice_get slots slot)) user need ≡ Some grant
      → (later : List Grant) × (in_force (flat_map option_to_list (take end slots)) ≡ in_force (flat_map option_to_list (take slot slots)) ++ grant ∷ later)
  split_stood slots zero slot grant less is = absurd (omega arith)
  split_stood [] (suc end) slot grant less is = absurd (cc)
  split_stood (None ∷ slots) (suc end) zero grant less is = absurd (cc)
  split_stood (Some entry ∷ slots) (suc end) zero grant less is =
      let found = is_given (Some entry) user need grant is in
      let same : found.entry ≡ entry = cc in
      let stands : is_none entry.end ≡ true = ap (λ (e : Record). is_none e.end) (sym same) ∙ found.unended in
      let first : entry.grant ≡ grant = ap (λ (e : Record). e.grant) (sym same) ∙ found.same in
      let later = in_force (flat_map option_to_list (take end slots)) in
      (later, rw stands (ap (λ (g : Grant). g ∷ later) first))
  split_stood (None ∷ slots) (suc end) (suc slot) grant less is = split_stood slots end slot grant (omega arith) is
  split_stood (Some entry ∷ slots) (suc end) (suc slot) grant less is =
      let rest = split_stood slots end slot grant (omega arith) is in
      by_cases (is_none entry.end)
      (λ stands. (rest.0, rw stands (ap (λ r. entry.grant ∷ r) rest.1)))
      (λ ended. (rest.0, rw ended rest.1))

  -- what neither the owner has nor a grant gives isn't had
  not_had : (owners : List ℕ) (grants : List Grant) → owns owners user need.table ≡ false → list_any (λ grant. gives grant user need) grants ≡ false
      → has owners grants user need ≡ false
  unfolding has
  not_had owners grants other none = rw (other, none) refl

  -- the first grant that gives the need is the last of its path
  pub first_is_last : (view : View) (owners : List ℕ) (end : ℕ) (found : Option Giving) → owns owners user need.table ≡ false
      → IsFirstGiving view user need end found → IsLastOfPath view owners user need end found
  first_is_last view owners end None other first = path-none owners (stood view end) user need (not_had owners (stood view end) other (none_stood view.slots end first))
  first_is_last view owners end (Some found) other first =
      let split = split_stood view.slots end found.slot found.grant first.0 first.1 in
      let gave = is_given (slot_at view found.slot) user need found.grant first.1 in
      ap (λ (grants : List Grant). path owners grants user need) split.1
      ∙ path-earliest owners (stood view found.slot) split.0 found.grant user need
      (not_had owners (stood view found.slot) other (none_stood view.slots found.slot first.2)) gave.given

  -- it is on the need's table
  pub first_below : (view : View) (end : ℕ) (found : Option Giving) → IsFirstGiving view user need end found
      → IfSome found (λ (giving : Giving). (giving.slot < end) × (giving.grant.table ≡ need.table))
  first_below view end None first = tt
  first_below view end (Some found) first =
      (first.0, (given found.grant user need (is_given (slot_at view found.slot) user need found.grant first.1).given).table)
