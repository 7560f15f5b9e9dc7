-- What a walk over the records finds.
use Rattle.std.proofs.Common.{◌≡◌, ℕ, zero, suc, ◌<◌, ◌≤◌, ◌+◌, Bool, false, List, [], ◌∷◌, Option, Some, None, length, get_or, map, refl, sym, ◌∙◌, ap, arith, inl, inr}
use Rattle.std.specs.Prelude.{nat_lt, slice_get}
use Rattle.std.specs.Option.{option_map_or}
use Rattle.std.proofs.lemmas.Bool.{cases_lt}
use Rattle.std.proofs.lemmas.Option.{slice_get_past}
use Rattle.model_base.specs.declared.deed.Grant.{Grant}
use Rattle.model_base.specs.declared.deed.Record.{Record}
use Rattle.model_base.specs.Records.{recorded}
use Rattle.model_base.proofs.Replay.{by_cases}
use Rattle.grants_base.specs.View.{flatten, grant_in}
use Rattle.grants_base.specs.Index.{AreAsked, passes_at}
use Rattle.grants_base.specs.Book.{Entries, slot_below, view_of}

-- the grant of an index is that of its record
pub recorded_at : (entries : List Record) (i : ℕ) (entry : Record) → i < length entries → entry ≡ get_or entries i entry
    → slice_get (recorded entries) i ≡ Some entry.grant
recorded_at [] i entry within is = absurd (omega arith)
recorded_at (e ∷ entries) zero entry within is = ap (λ (x : Record). Some x.grant) (sym is)
recorded_at (e ∷ entries) (suc i) entry within is = recorded_at entries i entry (omega arith) is

pub length-recorded : (entries : List Record) → length (recorded entries) ≡ length entries
length-recorded [] = refl
length-recorded (e ∷ entries) = ap suc (length-recorded entries)

module _ (passes : Grant → Bool) (entries : List Record) where
  pub passes_record : (i : ℕ) (entry : Record) → i < length entries → entry ≡ get_or entries i entry → passes_at passes (recorded entries) i ≡ passes entry.grant
  passes_record i entry within is = ap (λ o. option_map_or passes o false) (recorded_at entries i entry within is)

  pub walked_one : (from i : ℕ) (entry : Record) → i < length entries → entry ≡ get_or entries i entry → passes entry.grant ≡ false
      → ((k : ℕ) → from ≤ k → k < i → passes_at passes (recorded entries) k ≡ false)
      → (k : ℕ) → from ≤ k → k < i + 1 → passes_at passes (recorded entries) k ≡ false
  walked_one from i entry within is not before k low high =
      elim (cases_lt k i) [
        | inl less ↦ before k low less
        | inr more ↦ let here : k ≡ i = omega arith in ap (passes_at passes (recorded entries)) here ∙ passes_record i entry within is ∙ not
      ]

  pub walked_all : (from i : ℕ) → length entries ≤ i → ((k : ℕ) → from ≤ k → k < i → passes_at passes (recorded entries) k ≡ false)
      → (k : ℕ) → from ≤ k → passes_at passes (recorded entries) k ≡ false
  walked_all from i over before k low =
      elim (cases_lt k (length entries)) [
        | inl less ↦ before k low (omega arith)
        | inr more ↦ ap (λ o. option_map_or passes o false) (slice_get_past (recorded entries) k (omega (arith, length-recorded entries)))
      ]

-- a book's slots ask for the grants of its records
pub asked_book : (book : Entries) (place : ℕ) → AreAsked (view_of book place) (recorded book.records)
asked_book book place = record {
  long = length-recorded book.records ∙ sym (long book.records);
  each = λ i grant is. each book.records i grant is;
}
  where
    long : (entries : List Record) → length (map (slot_below place) entries) ≡ length entries
    long [] = refl
    long (e ∷ entries) = ap suc (long entries)

    each : (entries : List Record) (i : ℕ) (grant : Grant) → grant_in (flatten (slice_get (map (slot_below place) entries) i)) ≡ Some grant → slice_get (recorded entries) i ≡ Some grant
    each [] i grant is = absurd (cc)
    each (e ∷ entries) zero grant is =
        by_cases (nat_lt e.grant.place place) (λ below. rw below at is) (λ above. let none : None ≡ Some grant = rw above at is in absurd (cc))
    each (e ∷ entries) (suc i) grant is = each entries i grant is

-- what is found at no value is none
pub nothing : {X : Type 0} (found : Option X) → ((x : X) → found ≡ Some x → ⊥) → found ≡ None
nothing None never = refl
nothing (Some x) never = absurd (never x refl)
