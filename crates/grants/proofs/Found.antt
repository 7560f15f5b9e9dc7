-- What the slots that ask for grants to a grantee tell is what all such grants tell.
use Rattle.std.proofs.Common.{◌≡◌, ℕ, zero, suc, ◌<◌, ◌≤◌, ◌+◌, ◌-◌, Bool, true, false, List, Option, Some, None, is_none, length, drop, refl, sym, ◌∙◌, ap, arith, eq-eqb}
use Rattle.std.specs.List.{list_any, flat_map}
use Rattle.std.specs.Option.{option_map_or, option_to_list}
use Rattle.std.proofs.lemmas.Bool.{true≢false}
use Rattle.std.proofs.Math.ListN.{drop_of_length-le}
use Rattle.model_base.specs.declared.deed.Grant.{Grant}
use Rattle.model_base.specs.declared.deed.Grantee.{Grantee}
use Rattle.model_base.specs.declared.deed.Record.{Record}
use Rattle.model_base.specs.declared.deed.Need.{Need}
use Rattle.model_base.specs.Privileges.{gives}
use Rattle.model_base.proofs.Replay.{by_cases}
use Rattle.grants_base.specs.Force.{later_of}
use Rattle.grants.specs.Loss.{last_end, narrowed, slot_loss}
use Rattle.grants_base.specs.View.{View, grant_in, slot_at, slot_gives}
use Rattle.grants_base.specs.Index.{AreAsked, is_to, passes_at}
use Rattle.grants.proofs.Passing.{given, same_kind-same}
use Rattle.grants.proofs.LossLaws.{last_from}
use Rattle.grants.proofs.Narrow.{grant_narrowed, slot_at-narrowed}
use Rattle.grants.proofs.ViewLaws.{any_next}

module _ (view : View) (user : ℕ) (need : Need) where
  -- the slots from this one on to another have no grant that gives what is needed
  pub record AreIdle (from to : ℕ) : Type 0 where
    pub gives : (k : ℕ) → from ≤ k → k < to → slot_gives (slot_at view k) user need ≡ false
    pub loses : (k : ℕ) → from ≤ k → k < to → slot_loss (slot_at view k) user need ≡ None

  abbrev pub any_after : ℕ → Bool
  any_after i = list_any (λ slot. slot_gives slot user need) (drop i view.slots)

  abbrev pub last_after : ℕ → Option ℕ
  last_after i = last_end (flat_map option_to_list (drop i view.slots)) user need

  any_idle_by : (gap from to : ℕ) → from + gap ≡ to → to ≤ length view.slots → AreIdle from to → any_after to ≡ any_after from
  any_idle_by zero from to is within none = let same : to ≡ from = omega arith in ap any_after same
  any_idle_by (suc gap) from to is within none =
      any_idle_by gap (from + 1) to (omega arith) within (record { gives = λ k low high. none.gives k (omega arith) high; loses = λ k low high. none.loses k (omega arith) high })
      ∙ any_next view user need from (omega arith) (none.gives from (omega arith) (omega arith))

  pub any_idle : (from to : ℕ) → from ≤ to → to ≤ length view.slots → AreIdle from to → any_after to ≡ any_after from
  any_idle from to le within none = any_idle_by (to - from) from to (omega arith) within none

  last_idle_by : (gap from to : ℕ) → from + gap ≡ to → to ≤ length view.slots → AreIdle from to → last_after to ≡ last_after from
  last_idle_by zero from to is within none = let same : to ≡ from = omega arith in ap last_after same
  last_idle_by (suc gap) from to is within none =
      last_idle_by gap (from + 1) to (omega arith) within (record { gives = λ k low high. none.gives k (omega arith) high; loses = λ k low high. none.loses k (omega arith) high })
      ∙ sym (last_from view user need from (omega arith) ∙ ap (λ loss. later_of loss (last_after (from + 1))) (none.loses from (omega arith) (omega arith)))

  pub last_idle : (from to : ℕ) → from ≤ to → to ≤ length view.slots → AreIdle from to → last_after to ≡ last_after from
  last_idle from to le within none = last_idle_by (to - from) from to (omega arith) within none

  -- with no such slot left
  pub any_none : (from : ℕ) → from ≤ length view.slots → AreIdle from (length view.slots) → any_after from ≡ false
  any_none from le none =
      sym (any_idle from (length view.slots) le (omega arith) none)
      ∙ ap (list_any (λ slot. slot_gives slot user need)) (drop_of_length-le view.slots (omega arith))

  pub last_none : (from : ℕ) → from ≤ length view.slots → AreIdle from (length view.slots) → last_after from ≡ None
  last_none from le none =
      sym (last_idle from (length view.slots) le (omega arith) none)
      ∙ ap (λ slots. last_end (flat_map option_to_list slots) user need) (drop_of_length-le view.slots (omega arith))

-- the slots that aren't found among those that ask for grants to a grantee have none that gives what is needed
pub idle : (grantee : Grantee) (view : View) (user : ℕ) (need : Need) (asked : List Grant) → AreAsked view asked → (from to : ℕ)
    → ((k : ℕ) → from ≤ k → k < to → passes_at (is_to grantee need.kind need.table) asked k ≡ false) → AreIdle (narrowed grantee view) user need from to
idle grantee view user need asked are from to skipped = record {
  gives = λ k low high. none_gives (slot_at (narrowed grantee view) k) (nothing k (skipped k low high));
  loses = λ k low high. none_loses (slot_at (narrowed grantee view) k) (nothing k (skipped k low high));
}
  where
    nothing : (k : ℕ) → passes_at (is_to grantee need.kind need.table) asked k ≡ false → (grant : Grant) → grant_in (slot_at (narrowed grantee view) k) ≡ Some grant → gives grant user need ≡ false
    nothing k skip grant is =
        by_cases (gives grant user need)
        (λ gave.
        let parts = given grant user need gave in
        let there = grant_narrowed grantee (slot_at view k) grant (ap grant_in (sym (slot_at-narrowed grantee view k)) ∙ is) in
        let found : is_to grantee need.kind need.table grant ≡ true =
        rw (there.0, parts.kind, same_kind-same need.kind, parts.table, eq-eqb need.table need.table refl) refl in
        absurd (true≢false (sym found ∙ sym (ap (λ o. option_map_or (is_to grantee need.kind need.table) o false) (are.each k grant there.1)) ∙ skip)))
        (λ none. none)

    none_gives : (slot : Option Record) → ((grant : Grant) → grant_in slot ≡ Some grant → gives grant user need ≡ false) → slot_gives slot user need ≡ false
    none_gives None never = refl
    none_gives (Some entry) never = by_cases (is_none entry.end) (λ stands. rw (stands, never entry.grant refl) refl) (λ ended. rw ended refl)

    none_loses : (slot : Option Record) → ((grant : Grant) → grant_in slot ≡ Some grant → gives grant user need ≡ false) → slot_loss slot user need ≡ None
    none_loses None never = refl
    none_loses (Some entry) never = rw (never entry.grant refl) refl
