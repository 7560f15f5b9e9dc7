-- What is given by the grants that are known to be in force is what all slots tell.
use Rattle.std.proofs.Common.{◌≡◌, ℕ, zero, suc, ◌&&◌, ◌||◌, not, Bool, true, false, List, [], ◌∷◌, ◌++◌, Option, Some, None, is_none, map, refl, sym, ◌∙◌, ap, arith}
use Rattle.std.specs.Prelude.{IfSome, if◌then◌else◌, is_some, nat_lt, slice_get}
use Rattle.std.specs.List.{flat_map, list_any}
use Rattle.std.specs.Option.{option_map_or, option_to_list}
use Rattle.std.proofs.lemmas.Bool.{and_parts, or_right, true≢false}
use Rattle.model_base.specs.declared.deed.Grant.{Grant}
use Rattle.model_base.specs.declared.deed.Grantee.{Grantee}
use Rattle.model_base.specs.declared.deed.Kind.{Kind}
use Rattle.model_base.specs.declared.deed.Need.{Need}
use Rattle.model_base.specs.declared.deed.Record.{Record}
use Rattle.model_base.specs.Privileges.{gives, reaches, same_grantee, same_kind}
use Rattle.model_base.specs.Records.{end_below}
use Rattle.model_base.proofs.Reaching.{grantee-true}
use Rattle.model_base.proofs.Replay.{by_cases}
use Rattle.grants_base.specs.Book.{Entries, lies_below, slot_below, view_of}
use Rattle.grants_base.specs.Force.{end_if, gives_to, greatest_end, is_in_force, later_of}
use Rattle.grants_base.specs.InForce.{IsNextInForce, ShowsNextInForce}
use Rattle.grants_base.specs.Index.{IsFirst, IsOnly}
use Rattle.model_base.specs.Ranks.{kind_code}
use Rattle.grants_base.specs.View.{View, flatten, slot_at, slot_gives}
use Rattle.grants_base.specs.declared.force.NextBy.{NextBy}
use Rattle.grants_base.specs.declared.force.NextInForce.{NextInForce}
use Rattle.grants_base.proofs.Indexing.{code-same, first_as, other_order}
use Rattle.grants.specs.Loss.{last_end, loss_of, narrowed, only_to, standing_in_slots}
use Rattle.grants.specs.declared.holding.NeedState.TheVariants.{Held, Lost}

and-false : (a : Bool) → (a && false) ≡ false
and-false true = refl
and-false false = refl

kind_swap : (a b : Kind) → same_kind a b ≡ same_kind b a
kind_swap a b = sym (code-same b a) ∙ other_order (kind_code b) (kind_code a) ∙ code-same a b

-- one of the slots passes exactly if a first one is found
module _ (p : Option Record → Bool) (nothing : p None ≡ false) where
  none_of : (slots : List (Option Record)) → ((k : ℕ) → p (flatten (slice_get slots k)) ≡ false) → list_any p slots ≡ false
  none_of [] none = refl
  none_of (slot ∷ slots) none = rw (none 0) (none_of slots (λ k. none (suc k)))

  one_of : (slots : List (Option Record)) (i : ℕ) → p (flatten (slice_get slots i)) ≡ true → list_any p slots ≡ true
  one_of [] i is = absurd (true≢false (sym is ∙ nothing))
  one_of (slot ∷ slots) zero is = rw is refl
  one_of (slot ∷ slots) (suc i) is = or_later (p slot) (list_any p slots) (one_of slots i is)
    where
      or_later : (a b : Bool) → b ≡ true → (a || b) ≡ true
      or_later true b is = refl
      or_later false b is = is

  first_any : (slots : List (Option Record)) (found : Option ℕ) → IsFirst (λ k. p (flatten (slice_get slots k))) 0 found → list_any p slots ≡ is_some found
  first_any slots None is = none_of slots (λ k. is k (omega arith))
  first_any slots (Some i) is = one_of slots i is.1

-- a grantee by whom the user has what is needed
module _ (grantee : Grantee) (user : ℕ) (need : Need) (reach : reaches grantee user need.option ≡ true) where
  abbrev passes : Grant → Bool
  passes = gives_to grantee need.kind need.table need.option

  gives_same : (grant : Grant) → same_grantee grant.grantee grantee ≡ true → gives grant user need ≡ passes grant
  unfolding gives
  gives_same grant same =
      let one : grant.grantee ≡ grantee = grantee-true grant.grantee grantee same in
      let to : reaches grant.grantee user need.option ≡ true = ap (λ g. reaches g user need.option) one ∙ reach in
      rw (to, same) (parts (kind_swap grant.kind need.kind) (other_order grant.table need.table) (grant.option || not need.option))
    where
      parts : {a b c d : Bool} → a ≡ b → c ≡ d → (e : Bool) → (a && (c && e)) ≡ ((b && d) && e)
      parts {a} {b} {c} {d} ab cd e = ap (λ x. x && (c && e)) ab ∙ ap (λ x. b && (x && e)) cd ∙ joined b d e
        where
          joined : (x y z : Bool) → (x && (y && z)) ≡ ((x && y) && z)
          joined true y z = refl
          joined false y z = refl

  passes-apart : (grant : Grant) → same_grantee grant.grantee grantee ≡ false → passes grant ≡ false
  passes-apart grant apart = rw apart refl

  slot_same : (slot : Option Record) → slot_gives (only_to grantee slot) user need ≡ is_in_force passes slot
  slot_same None = refl
  slot_same (Some entry) =
      by_cases (same_grantee entry.grant.grantee grantee)
      (λ here. ap (λ (b : Bool). slot_gives (if b then Some entry else None) user need) here ∙ ap (λ b. is_none entry.end && b) (gives_same entry.grant here))
      (λ apart.
      ap (λ (b : Bool). slot_gives (if b then Some entry else None) user need) apart
      ∙ sym (ap (λ b. is_none entry.end && b) (passes-apart entry.grant apart) ∙ and-false (is_none entry.end)))

  any_same : (slots : List (Option Record)) → list_any (λ slot. slot_gives slot user need) (map (only_to grantee) slots) ≡ list_any (is_in_force passes) slots
  any_same [] = refl
  any_same (slot ∷ slots) =
      ap (λ b. b || list_any (λ s. slot_gives s user need) (map (only_to grantee) slots)) (slot_same slot) ∙ ap (λ b. is_in_force passes slot || b) (any_same slots)

  any_at : (slots : List (Option Record)) (k : ℕ) → is_in_force passes (flatten (slice_get slots k)) ≡ true → list_any (is_in_force passes) slots ≡ true
  any_at [] k is = absurd (true≢false (sym is))
  any_at (slot ∷ slots) zero is = rw is refl
  any_at (slot ∷ slots) (suc k) is = or_right (is_in_force passes slot) (list_any (is_in_force passes) slots) (any_at slots k is)

  -- one of those in force that gives it
  pub held_by : (view : View) (k : ℕ) → is_in_force passes (slot_at view k) ≡ true → Held ≡ standing_in_slots (narrowed grantee view) user need
  held_by view k here = (let any = any_same view.slots ∙ any_at view.slots k here in rw any refl)

  last_same : (slots : List (Option Record)) → last_end (flat_map option_to_list (map (only_to grantee) slots)) user need ≡ greatest_end passes (flat_map option_to_list slots)
  last_same [] = refl
  last_same (None ∷ slots) = last_same slots
  last_same (Some entry ∷ slots) =
      by_cases (same_grantee entry.grant.grantee grantee)
      (λ here.
      let one : loss_of entry user need ≡ end_if passes entry = ap (λ (b : Bool). if b then entry.end else None) (gives_same entry.grant here) in
      narrow here ∙ ap (λ end. later_of end (last_end (flat_map option_to_list (map (only_to grantee) slots)) user need)) one ∙ ap (later_of (end_if passes entry)) (last_same slots))
      (λ apart.
      let none : end_if passes entry ≡ None = ap (λ (b : Bool). if b then entry.end else None) (passes-apart entry.grant apart) in
      narrow apart ∙ last_same slots ∙ ap (λ end. later_of end (greatest_end passes (flat_map option_to_list slots))) (sym none))
    where
      narrow : {b : Bool} → same_grantee entry.grant.grantee grantee ≡ b
          → last_end (flat_map option_to_list (map (only_to grantee) (Some entry ∷ slots))) user need
          ≡ last_end (option_to_list (if b then Some entry else None) ++ flat_map option_to_list (map (only_to grantee) slots)) user need
      narrow is = ap (λ (b : Bool). last_end (option_to_list (if b then Some entry else None) ++ flat_map option_to_list (map (only_to grantee) slots)) user need) is

  -- what the next of those in force says
  pub known : (view : View) (next : NextInForce) → ShowsNextInForce passes view 0 next
      → (if is_some next.slot then Held else Lost next.lost) ≡ standing_in_slots (narrowed grantee view) user need
  known view next is =
      let any = any_same view.slots ∙ first_any (is_in_force passes) refl view.slots next.slot is.slot in
      let last = is.lost ∙ sym (last_same view.slots) in
      rw (any, last) refl

-- a book that lies below a place shows there what it has
module _ (book : Entries) (place : ℕ) (below : (slot : ℕ) (entry : Record) → slice_get book.records slot ≡ Some entry → lies_below place entry ≡ true) where
  end-whole : (end : Option ℕ) → option_map_or (λ e. nat_lt e place) end true ≡ true → end_below place end ≡ end
  end-whole None is = refl
  end-whole (Some q) is = rw is refl

  abbrev with : Grant → Option ℕ → Option Record
  with g e = Some (record { grant = g; end = e })

  slot-whole : (entry : Record) → lies_below place entry ≡ true → slot_below place entry ≡ Some entry
  slot-whole entry is =
      let parts = and_parts (nat_lt entry.grant.place place) (option_map_or (λ e. nat_lt e place) entry.end true) is in
      rw parts.0 (ap (with entry.grant) (end-whole entry.end parts.1))

  slots-whole : (records : List Record) → ((slot : ℕ) (entry : Record) → slice_get records slot ≡ Some entry → lies_below place entry ≡ true)
      → map (slot_below place) records ≡ map (λ (entry : Record). Some entry) records
  slots-whole [] all = refl
  slots-whole (entry ∷ records) all =
      ap (λ slot. slot ∷ map (slot_below place) records) (slot-whole entry (all 0 entry refl))
      ∙ ap (λ rest. Some entry ∷ rest) (slots-whole records (λ slot e at. all (suc slot) e at))

  at-whole : (records : List Record) (k : ℕ) → flatten (slice_get (map (λ (entry : Record). Some entry) records) k) ≡ slice_get records k
  at-whole [] k = refl
  at-whole (entry ∷ records) zero = refl
  at-whole (entry ∷ records) (suc k) = at-whole records k

  entries-whole : (records : List Record) → flat_map option_to_list (map (λ (entry : Record). Some entry) records) ≡ records
  entries-whole [] = refl
  entries-whole (entry ∷ records) = ap (λ rest. entry ∷ rest) (entries-whole records)

  -- what is found of the records is what the view's slots show
  pub shows_slot : (passes : Grant → Bool) (from : ℕ) (found : Option ℕ) → IsFirst (λ k. is_in_force passes (slice_get book.records k)) from found
      → IsFirst (λ k. is_in_force passes (slot_at (view_of book place) k)) from found
  shows_slot passes from found is =
      let whole = slots-whole book.records below in
      first_as (λ k. is_in_force passes (slice_get book.records k)) (λ k. is_in_force passes (slot_at (view_of book place) k))
      (λ k. ap (is_in_force passes) (sym (ap (λ (slots : List (Option Record)). flatten (slice_get slots k)) whole ∙ at-whole book.records k)))
      from found is

  pub shows_only : (passes : Grant → Bool) (slot : ℕ) → IsOnly (λ k. is_in_force passes (slice_get book.records k)) slot
      → IsOnly (λ k. is_in_force passes (slot_at (view_of book place) k)) slot
  shows_only passes slot only k other =
      let whole = slots-whole book.records below in
      ap (is_in_force passes) (ap (λ (slots : List (Option Record)). flatten (slice_get slots k)) whole ∙ at-whole book.records k) ∙ only k other

  pub shows_next : (passes : Grant → Bool) (from : ℕ) (next : NextInForce) → IsNextInForce passes book.records from next → ShowsNextInForce passes (view_of book place) from next
  shows_next passes from next is =
      let whole = slots-whole book.records below in
      record {
        slot = shows_slot passes from next.slot is.slot;
        lost = is.lost ∙ ap (greatest_end passes) (sym (ap (λ (slots : List (Option Record)). flat_map option_to_list slots) whole ∙ entries-whole book.records));
      }

-- the same of what is found, if something is
pub shows_found : (book : Entries) (place : ℕ) (below : (slot : ℕ) (entry : Record) → slice_get book.records slot ≡ Some entry → lies_below place entry ≡ true)
    (passes : Grant → Bool) (from : ℕ) (found : Option NextInForce) → IfSome found (λ next. IsNextInForce passes book.records from next)
    → IfSome found (λ next. ShowsNextInForce passes (view_of book place) from next)
shows_found book place below passes from None is = tt
shows_found book place below passes from (Some next) is = shows_next book place below passes from next is

pub shows_by : (book : Entries) (place : ℕ) (below : (slot : ℕ) (entry : Record) → slice_get book.records slot ≡ Some entry → lies_below place entry ≡ true)
    (passes : Grant → Bool) (from : ℕ) (found : Option NextBy) → IfSome found (λ next. IsFirst (λ k. is_in_force passes (slice_get book.records k)) from next.slot)
    → IfSome found (λ next. IsFirst (λ k. is_in_force passes (slot_at (view_of book place) k)) from next.slot)
shows_by book place below passes from None is = tt
shows_by book place below passes from (Some next) is = shows_slot book place below passes from next.slot is

pub shows_one : (book : Entries) (place : ℕ) (below : (slot : ℕ) (entry : Record) → slice_get book.records slot ≡ Some entry → lies_below place entry ≡ true)
    (passes : Grant → Bool) (found : Option ℕ) → IfSome found (IsOnly (λ k. is_in_force passes (slice_get book.records k)))
    → IfSome found (IsOnly (λ k. is_in_force passes (slot_at (view_of book place) k)))
shows_one book place below passes None is = tt
shows_one book place below passes (Some slot) is = shows_only book place below passes slot is

-- where one is found it passes
pub one_found : (test : ℕ → Bool) (from : ℕ) (found : Option ℕ) → IsFirst test from found → is_some found ≡ true → (k : ℕ) × (test k ≡ true)
one_found test from None first some = absurd (true≢false (sym some))
one_found test from (Some i) first some = (i, first.1)
