-- What the grants to a user and those to PUBLIC tell of a need is what all grants tell.
use Rattle.std.proofs.Common.{◌≡◌, ℕ, zero, suc, ◌||◌, ◌&&◌, not, Bool, true, false, List, [], ◌∷◌, Option, Some, None, is_none, length, map, refl, sym, ◌∙◌, ap}
use Rattle.std.specs.Prelude.{◌==◌, if◌then◌else◌, slice_get}
use Rattle.std.specs.List.{list_any, flat_map}
use Rattle.std.specs.Option.{option_map_or, option_to_list}
use Rattle.std.proofs.lemmas.Bool.{and_parts}
use Rattle.model_base.specs.declared.deed.Grant.{Grant}
use Rattle.model_base.specs.declared.deed.Grantee.{Grantee}
use Rattle.model_base.specs.declared.deed.Grantee.TheVariants.{Public, User}
use Rattle.model_base.specs.declared.deed.Kind.{Kind}
use Rattle.model_base.specs.declared.deed.Record.{Record}
use Rattle.model_base.specs.declared.deed.Need.{Need}
use Rattle.model_base.specs.Privileges.{gives, reaches, same_grantee}
use Rattle.model_base.proofs.Replay.{by_cases}
use Rattle.grants_base.specs.Index.{AreAsked, is_about, is_to, passes_at}
use Rattle.grants_base.specs.Force.{later_of}
use Rattle.grants.specs.Loss.{both, last_end, narrowed, only_to, slot_loss, standing_in_slots}
use Rattle.grants_base.specs.View.{View, flatten, grant_in, slot_at, slot_gives}
use Rattle.grants.specs.declared.holding.NeedState.{NeedState}
use Rattle.grants.specs.declared.holding.NeedState.TheVariants.{Held, Lost}
use Rattle.grants_base.proofs.LaterOf.{later-assoc, later-none, later-swap}

later-four : (a b c d : Option ℕ) → later_of (later_of a b) (later_of c d) ≡ later_of (later_of a c) (later_of b d)
later-four a b c d =
    later-assoc a b (later_of c d)
    ∙ ap (later_of a) (sym (later-assoc b c d) ∙ ap (λ x. later_of x d) (later-swap b c) ∙ later-assoc c b d)
    ∙ sym (later-assoc a c (later_of b d))

or-four : (a b c d : Bool) → ((a || b) || (c || d)) ≡ ((a || c) || (b || d))
or-four true b c d = refl
or-four false true true d = refl
or-four false true false d = refl
or-four false false c d = refl

or_false : (a : Bool) → (a || false) ≡ a
or_false true = refl
or_false false = refl

-- two parts together
both-parts : (first second : Bool) (place end : Option ℕ)
    → both (if first then Held else Lost place) (if second then Held else Lost end) ≡ (if first || second then Held else Lost (later_of place end))
both-parts true second place end = refl
both-parts false true place end = refl
both-parts false false place end = refl

-- a part that says of no loss
pub both-lost : (standing : NeedState) → both standing (Lost None) ≡ standing
both-lost Held = refl
both-lost (Lost place) = ap (λ (p : Option ℕ). Lost p) (later-none place)

module _ (user : ℕ) (need : Need) where
  -- what one slot says, its grant being to the user, to another or to PUBLIC
  record AreParts (slot : Option Record) : Type 0 where
    gives_it : (slot_gives (only_to (User user) slot) user need || slot_gives (only_to Public slot) user need) ≡ slot_gives slot user need
    loses_it : later_of (slot_loss (only_to (User user) slot) user need) (slot_loss (only_to Public slot) user need) ≡ slot_loss slot user need

  apart : (grant : Grant) → reaches grant.grantee user need.option ≡ false → gives grant user need ≡ false
  unfolding gives
  apart grant is = rw is refl

  parts : (slot : Option Record) → AreParts slot
  parts None = record { gives_it = refl; loses_it = refl }
  parts (Some entry) = by_grantee entry.grant.grantee refl
    where
      by_grantee : (grantee : Grantee) → entry.grant.grantee ≡ grantee → AreParts (Some entry)
      by_grantee Public is = record { gives_it = rw is refl; loses_it = rw is refl }
      by_grantee (User other) is =
          by_cases (other == user)
          (λ here.
          let own : same_grantee entry.grant.grantee (User user) ≡ true = ap (λ (g : Grantee). same_grantee g (User user)) is ∙ here in
          let all : same_grantee entry.grant.grantee Public ≡ false = ap (λ (g : Grantee). same_grantee g Public) is in
          record {
            gives_it = rw (own, all) (or_false (slot_gives (Some entry) user need));
            loses_it = rw (own, all) (later-none (slot_loss (Some entry) user need));
          })
          (λ elsewhere.
          let none : gives entry.grant user need ≡ false = apart entry.grant (ap (λ (g : Grantee). reaches g user need.option) is ∙ elsewhere) in
          let own : same_grantee entry.grant.grantee (User user) ≡ false = ap (λ (g : Grantee). same_grantee g (User user)) is ∙ elsewhere in
          let all : same_grantee entry.grant.grantee Public ≡ false = ap (λ (g : Grantee). same_grantee g Public) is in
          record { gives_it = rw (own, all, none) (sym (nothing (is_none entry.end))); loses_it = rw (own, all, none) refl })
        where
          nothing : (b : Bool) → (b && false) ≡ false
          nothing true = refl
          nothing false = refl

  -- a slot gives what one of its parts gives
  pub slot_gives-parts : (slot : Option Record) → (slot_gives (only_to (User user) slot) user need || slot_gives (only_to Public slot) user need) ≡ slot_gives slot user need
  slot_gives-parts slot = (parts slot).gives_it

  any_parts : (slots : List (Option Record))
      → (list_any (λ slot. slot_gives slot user need) (map (only_to (User user)) slots) || list_any (λ slot. slot_gives slot user need) (map (only_to Public) slots))
      ≡ list_any (λ slot. slot_gives slot user need) slots
  any_parts [] = refl
  any_parts (slot ∷ slots) =
      or-four (slot_gives (only_to (User user) slot) user need) (list_any (λ s. slot_gives s user need) (map (only_to (User user)) slots))
      (slot_gives (only_to Public slot) user need) (list_any (λ s. slot_gives s user need) (map (only_to Public) slots))
      ∙ ap (λ b. b || (list_any (λ s. slot_gives s user need) (map (only_to (User user)) slots) || list_any (λ s. slot_gives s user need) (map (only_to Public) slots))) (parts slot).gives_it
      ∙ ap (λ b. slot_gives slot user need || b) (any_parts slots)

  abbrev last_of : List (Option Record) → Option ℕ
  last_of slots = last_end (flat_map option_to_list slots) user need

  last-first : (slot : Option Record) (slots : List (Option Record)) → last_of (slot ∷ slots) ≡ later_of (slot_loss slot user need) (last_of slots)
  last-first None slots = refl
  last-first (Some entry) slots = refl

  last_parts : (slots : List (Option Record)) → later_of (last_of (map (only_to (User user)) slots)) (last_of (map (only_to Public) slots)) ≡ last_of slots
  last_parts [] = refl
  last_parts (slot ∷ slots) =
      let own = only_to (User user) slot in
      let other = only_to Public slot in
      let owns = last_of (map (only_to (User user)) slots) in
      let others = last_of (map (only_to Public) slots) in
      ap (λ x. later_of x (last_of (other ∷ map (only_to Public) slots))) (last-first own (map (only_to (User user)) slots))
      ∙ ap (later_of (later_of (slot_loss own user need) owns)) (last-first other (map (only_to Public) slots))
      ∙ later-four (slot_loss own user need) owns (slot_loss other user need) others
      ∙ ap (λ x. later_of x (later_of owns others)) (parts slot).loses_it
      ∙ ap (later_of (slot_loss slot user need)) (last_parts slots)
      ∙ sym (last-first slot slots)

  -- so the two parts of a view tell what the view says
  pub standing_in_slots-parts : (view : View)
      → both (standing_in_slots (narrowed (User user) view) user need) (standing_in_slots (narrowed Public view) user need) ≡ standing_in_slots view user need
  standing_in_slots-parts view =
      both-parts (list_any (λ slot. slot_gives slot user need) (map (only_to (User user)) view.slots)) (list_any (λ slot. slot_gives slot user need) (map (only_to Public) view.slots))
      (last_of (map (only_to (User user)) view.slots)) (last_of (map (only_to Public) view.slots))
      ∙ ap (λ (given : Bool). if given then Held else Lost (later_of (last_of (map (only_to (User user)) view.slots)) (last_of (map (only_to Public) view.slots)))) (any_parts view.slots)
      ∙ ap (λ place. if list_any (λ slot. slot_gives slot user need) view.slots then Held else Lost place) (last_parts view.slots)

  -- PUBLIC has no option
  never : need.option ≡ true → (entry : Record) → same_grantee entry.grant.grantee Public ≡ true → gives entry.grant user need ≡ false
  never option entry is = apart entry.grant (by_grantee entry.grant.grantee is)
    where
      by_grantee : (grantee : Grantee) → same_grantee grantee Public ≡ true → reaches grantee user need.option ≡ false
      by_grantee (User other) same = absurd (cc)
      by_grantee Public same = ap not option

  pub slot_gives-public : need.option ≡ true → (slot : Option Record) → slot_gives (only_to Public slot) user need ≡ false
  slot_gives-public option None = refl
  slot_gives-public option (Some entry) =
      by_cases (same_grantee entry.grant.grantee Public)
      (λ is. by_cases (is_none entry.end)
      (λ stands. rw (is, stands, never option entry is) refl)
      (λ ended. rw (is, ended) refl))
      (λ other. rw other refl)

  pub standing_in_slots-public : (view : View) → need.option ≡ true → standing_in_slots (narrowed Public view) user need ≡ Lost None
  standing_in_slots-public view option = rw (any_none view.slots, last_none view.slots) refl
    where
      any_none : (slots : List (Option Record)) → list_any (λ slot. slot_gives slot user need) (map (only_to Public) slots) ≡ false
      any_none [] = refl
      any_none (slot ∷ slots) = rw (slot_gives-public option slot) (any_none slots)

      last_none : (slots : List (Option Record)) → last_of (map (only_to Public) slots) ≡ None
      last_none [] = refl
      last_none (None ∷ slots) = last_none slots
      last_none (Some entry ∷ slots) =
          by_cases (same_grantee entry.grant.grantee Public)
          (λ is. rw (is, never option entry is) (last_none slots))
          (λ other. rw other (last_none slots))

-- a slot of the part is that of the whole, if its grant is to the grantee
pub slot_at-narrowed : (grantee : Grantee) (view : View) (i : ℕ) → slot_at (narrowed grantee view) i ≡ only_to grantee (slot_at view i)
slot_at-narrowed grantee view i = each view.slots i
  where
    each : (slots : List (Option Record)) (k : ℕ) → flatten (slice_get (map (only_to grantee) slots) k) ≡ only_to grantee (flatten (slice_get slots k))
    each [] k = refl
    each (slot ∷ slots) zero = refl
    each (slot ∷ slots) (suc k) = each slots k

pub length-narrowed : (grantee : Grantee) (view : View) → length (narrowed grantee view).slots ≡ length view.slots
length-narrowed grantee view = each view.slots
  where
    each : (slots : List (Option Record)) → length (map (only_to grantee) slots) ≡ length slots
    each [] = refl
    each (slot ∷ slots) = ap suc (each slots)

-- so a slot that is found is the same in both
pub slot_found : (grantee : Grantee) (kind : Kind) (table : ℕ) (view : View) (asked : List Grant) → AreAsked view asked → (i : ℕ)
    → passes_at (is_to grantee kind table) asked i ≡ true → slot_at (narrowed grantee view) i ≡ slot_at view i
slot_found grantee kind table view asked are i found = slot_at-narrowed grantee view i ∙ by_slot (slot_at view i) refl
  where
    by_slot : (slot : Option Record) → slot_at view i ≡ slot → only_to grantee slot ≡ slot
    by_slot None is = refl
    by_slot (Some entry) is =
        let asks : slice_get asked i ≡ Some entry.grant = are.each i entry.grant (ap grant_in is) in
        let passes : is_to grantee kind table entry.grant ≡ true = sym (ap (λ o. option_map_or (is_to grantee kind table) o false) asks) ∙ found in
        rw ((and_parts (same_grantee entry.grant.grantee grantee) (is_about kind table entry.grant) passes).0) refl

-- what a slot of the part has is a grant to the grantee, and the slot's
pub grant_narrowed : (grantee : Grantee) (slot : Option Record) (grant : Grant) → grant_in (only_to grantee slot) ≡ Some grant
    → (same_grantee grant.grantee grantee ≡ true) × (grant_in slot ≡ Some grant)
grant_narrowed grantee None grant is = absurd (cc)
grant_narrowed grantee (Some entry) grant is =
    by_cases (same_grantee entry.grant.grantee grantee)
    (λ to.
    let has : Some entry.grant ≡ Some grant = rw to at is in
    let one : entry.grant ≡ grant = cc in
    (ap (λ (g : Grant). same_grantee g.grantee grantee) (sym one) ∙ to, has))
    (λ other. absurd (none (rw other at is)))
  where
    none : None ≡ Some grant → ⊥
    none e = cc
