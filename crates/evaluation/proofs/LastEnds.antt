-- The greatest end of some records is the last one: one of them has it, and none has a later one.
use Rattle.std.proofs.Common.{◌≡◌, ℕ, zero, suc, Bool, true, List, [], ◌∷◌, Option, Some, None, map, refl, sym, ◌∙◌, ap, arith, inl, inr}
use Rattle.std.specs.Prelude.{◌⊎◌, nat_le, slice_get}
use Rattle.std.specs.List.{flat_map}
use Rattle.std.specs.Option.{option_to_list}
use Rattle.std.proofs.lemmas.Bool.{cases_lt, le-leb, le-ltb, leb-true, lt-ltb, true≢false}
use Rattle.model_base.specs.declared.deed.Grant.{Grant}
use Rattle.model_base.specs.declared.deed.Record.{Record}
use Rattle.grants_base.specs.Force.{end_if, greatest_end, later_of}
use Rattle.grants_base.specs.View.{View, entries, flatten, slot_at}
use Rattle.log_batch.proofs.AtStart.{at-whole, entries-whole}
use Rattle.evaluation.specs.Sought.{IsLastEnd, is_up_to, slot_end}

-- the later of two places is one of them, and lies at neither or above
pub later-one : (a b : Option ℕ) (place : ℕ) → later_of a b ≡ Some place → (a ≡ Some place) ⊎ (b ≡ Some place)
later-one None b place is = inr is
later-one (Some x) None place is = inl is
later-one (Some x) (Some y) place is =
    elim (cases_lt x y) [
      | inl less ↦ inr (rw (lt-ltb x y less) at is)
      | inr over ↦ inl (rw (le-ltb x y over) at is)
    ]

pub later-left : (a b : Option ℕ) (place : ℕ) → is_up_to a place ≡ true → is_up_to (later_of a b) place ≡ true
later-left None b place up = absurd (true≢false (sym up))
later-left (Some x) None place up = up
later-left (Some x) (Some y) place up =
    elim (cases_lt x y) [
      | inl less ↦ (let low = leb-true place x up in rw (lt-ltb x y less) (le-leb place y (omega arith)))
      | inr over ↦ rw (le-ltb x y over) up
    ]

pub later-right : (a b : Option ℕ) (place : ℕ) → is_up_to b place ≡ true → is_up_to (later_of a b) place ≡ true
later-right None b place up = up
later-right (Some x) None place up = absurd (true≢false (sym up))
later-right (Some x) (Some y) place up =
    elim (cases_lt x y) [
      | inl less ↦ rw (lt-ltb x y less) up
      | inr over ↦ (let low = leb-true place y up in rw (le-ltb x y over) (le-leb place x (omega arith)))
    ]

pub up-to-itself : (last : Option ℕ) (place : ℕ) → last ≡ Some place → is_up_to last place ≡ true
up-to-itself None place is = absurd (cc)
up-to-itself (Some last) place is = (let same : last ≡ place = cc in le-leb place last (omega arith))

abbrev greatest : (Grant → Bool) → List (Option Record) → Option ℕ
greatest passes slots = greatest_end passes (flat_map option_to_list slots)

module _ (passes : Grant → Bool) where
  slots-there : (slots : List (Option Record)) (place : ℕ) → greatest passes slots ≡ Some place
      → (k : ℕ) × (slot_end passes (flatten (slice_get slots k)) ≡ Some place)
  slots-there [] place is = absurd (cc)
  slots-there (None ∷ slots) place is = (let rest = slots-there slots place is in (suc rest.0, rest.1))
  slots-there (Some entry ∷ slots) place is =
      elim (later-one (end_if passes entry) (greatest passes slots) place is) [
        | inl here ↦ (zero, here)
        | inr later ↦ (let rest = slots-there slots place later in (suc rest.0, rest.1))
      ]

  slots-latest : (slots : List (Option Record)) (k place : ℕ) → slot_end passes (flatten (slice_get slots k)) ≡ Some place
      → is_up_to (greatest passes slots) place ≡ true
  slots-latest [] k place is = absurd (cc)
  slots-latest (None ∷ slots) zero place is = absurd (cc)
  slots-latest (None ∷ slots) (suc k) place is = slots-latest slots k place is
  slots-latest (Some entry ∷ slots) zero place is =
      later-left (end_if passes entry) (greatest passes slots) place (up-to-itself (end_if passes entry) place is)
  slots-latest (Some entry ∷ slots) (suc k) place is =
      later-right (end_if passes entry) (greatest passes slots) place (slots-latest slots k place is)

  -- so it is with records
  pub records-there : (records : List Record) (place : ℕ) → greatest_end passes records ≡ Some place
      → (k : ℕ) × (slot_end passes (slice_get records k) ≡ Some place)
  records-there records place is =
      let slots : List (Option Record) = map (λ (entry : Record). Some entry) records in
      let found = slots-there slots place (ap (greatest_end passes) (entries-whole records) ∙ is) in
      (found.0, ap (slot_end passes) (sym (at-whole records found.0)) ∙ found.1)

  pub records-latest : (records : List Record) (k place : ℕ) → slot_end passes (slice_get records k) ≡ Some place
      → is_up_to (greatest_end passes records) place ≡ true
  records-latest records k place is =
      ap (λ found. is_up_to (greatest_end passes found) place) (sym (entries-whole records))
      ∙ slots-latest (map (λ (entry : Record). Some entry) records) k place (ap (slot_end passes) (at-whole records k) ∙ is)

  -- the last end of all slots is the greatest
  pub last-greatest : (view : View) (last : Option ℕ) → IsLastEnd passes view (λ _. true) last → last ≡ greatest_end passes (entries view)
  last-greatest view last is = by_both last (greatest passes view.slots) refl refl
    where
      by_both : (a b : Option ℕ) → last ≡ a → greatest passes view.slots ≡ b → last ≡ greatest passes view.slots
      by_both None None left right = left ∙ sym right
      by_both None (Some y) left right =
          let found = slots-there view.slots y right in
          absurd (true≢false (sym (is.latest found.0 y refl found.1) ∙ ap (λ l. is_up_to l y) left))
      by_both (Some x) None left right =
          let found = is.there x left in
          absurd (true≢false (sym (slots-latest view.slots found.0 x found.1) ∙ ap (λ l. is_up_to l x) right))
      by_both (Some x) (Some y) left right =
          let mine = is.there x left in
          let other = slots-there view.slots y right in
          let low : nat_le x y ≡ true = sym (ap (λ l. is_up_to l x) right) ∙ slots-latest view.slots mine.0 x mine.1 in
          let high : nat_le y x ≡ true = sym (ap (λ l. is_up_to l y) left) ∙ is.latest other.0 y refl other.1 in
          let first = leb-true x y low in
          let second = leb-true y x high in
          let same : x ≡ y = omega arith in
          left ∙ ap (λ (n : ℕ). Some n) same ∙ sym right

  -- one slot more is looked at
  pub last-more : (view : View) (looked more : ℕ → Bool) (last end : Option ℕ) (slot : ℕ) → IsLastEnd passes view looked last
      → end ≡ slot_end passes (slot_at view slot)
      → ((k place : ℕ) → more k ≡ true → slot_end passes (slot_at view k) ≡ Some place → (looked k ≡ true) ⊎ (k ≡ slot))
      → IsLastEnd passes view more (later_of last end)
  last-more view looked more last end slot is at only = record {
    there = λ place found. elim (later-one last end place found) [
      | inl before ↦ is.there place before
      | inr here ↦ (slot, sym at ∙ here)
    ];
    latest = λ k place seen found. elim (only k place seen found) [
      | inl before ↦ later-left last end place (is.latest k place before found)
      | inr here ↦ later-right last end place (up-to-itself end place (at ∙ ap (λ i. slot_end passes (slot_at view i)) (sym here) ∙ found))
    ];
  }
