-- A privilege of one grant and of others, with one more and with one less.
use Rattle.std.proofs.Common.{◌≡◌, ℕ, ◌&&◌, ◌||◌, not, Bool, true, false, List, [], ◌∷◌, ◌++◌, Option, Some, None, refl, sym, ◌∙◌, ap}
use Rattle.std.specs.Prelude.{◌==◌, if◌then◌else◌}
use Rattle.grants_base.specs.Force.{Force, HasGainedGrant, HasLostGrant, GrantSlots, IsGranted, IsWithdrawn, force_of, held_by_one, later_of, privilege_of, slots_given}
use Rattle.grants_base.specs.GrantorSet.{HasGainedBy, has_by, same_granted}
use Rattle.grants_base.specs.Index.{IsFirst, is_one_of}
use Rattle.grants_base.specs.SlotSet.{HasGained, HasLost}
use Rattle.grants_base.specs.declared.grantor_set.Granted.{Granted}
use Rattle.grants_base.proofs.GrantorLaws.{by-append, lost_by}
use Rattle.grants_base.proofs.Indexing.{first_as}

or-assoc : (a b c : Bool) → (a || (b || c)) ≡ ((a || b) || c)
or-assoc true b c = refl
or-assoc false b c = refl

or-turned : (a b : Bool) → (a || b) ≡ (b || a)
or-turned true true = refl
or-turned true false = refl
or-turned false true = refl
or-turned false false = refl

and-over : (a b c : Bool) → ((a && c) || (b && c)) ≡ ((a || b) && c)
and-over true true true = refl
and-over true true false = refl
and-over true false true = refl
and-over true false false = refl
and-over false b c = refl

pub slots-append : (first second : List ℕ) (k : ℕ) → is_one_of (first ++ second) k ≡ (is_one_of first k || is_one_of second k)
slots-append [] second k = refl
slots-append (x ∷ first) second k = ap (λ b. (x == k) || b) (slots-append first second k) ∙ or-assoc (x == k) (is_one_of first k) (is_one_of second k)

-- slots of which a part has one more
gained_after : (one old new : List ℕ) (slot : ℕ) → HasGained slot old new → HasGained slot (one ++ old) (one ++ new)
gained_after one old new slot gained = λ k.
    slots-append one new k ∙ ap (λ b. is_one_of one k || b) (gained k) ∙ or-assoc (is_one_of one k) (is_one_of old k) (slot == k)
    ∙ ap (λ b. b || (slot == k)) (sym (slots-append one old k))

gained_by_after : (one old new : List Granted) (granted : Granted) → HasGainedBy granted old new → HasGainedBy granted (one ++ old) (one ++ new)
gained_by_after one old new granted gained = λ user k.
    let here = same_granted granted (record { grantor = user; slot = k }) in
    by-append one new user k ∙ ap (λ b. has_by one user k || b) (gained user k) ∙ or-assoc (has_by one user k) (has_by old user k) here
    ∙ ap (λ b. b || here) (sym (by-append one old user k))

-- or of which both parts have lost one
lost_slots : (one one-after others after : List ℕ) (slot : ℕ) → HasLost slot one one-after → HasLost slot others after
    → HasLost slot (one ++ others) (one-after ++ after)
lost_slots one one-after others after slot first second = λ k.
    let here = not (slot == k) in
    slots-append one-after after k
    ∙ ap (λ b. b || is_one_of after k) (first k)
    ∙ ap (λ b. (is_one_of one k && here) || b) (second k)
    ∙ and-over (is_one_of one k) (is_one_of others k) here
    ∙ ap (λ b. b && here) (sym (slots-append one others k))

module _ (granted : Granted) (lost lost_with_option : Option ℕ) where
  -- the others have one grant more
  pub granted_other : (option : Bool) (one old new : GrantSlots) → HasGainedGrant granted option old new
      → IsGranted granted option (privilege_of one old lost lost_with_option) (privilege_of one new lost lost_with_option)
  granted_other true one old new gained = (
    (
      record { slots = gained_after one.plain old.plain new.plain granted.slot gained.plain; lost = refl },
      record { slots = gained_after one.with_option old.with_option new.with_option granted.slot gained.with_option; lost = refl },
      tt,
    ),
    gained_by_after one.by old.by new.by granted gained.by,
  )
  granted_other false one old new gained = (
    (
      record { slots = gained_after one.plain old.plain new.plain granted.slot gained.plain; lost = refl },
      tt,
      ap (λ (slots : List ℕ). record { slots = one.with_option ++ slots; lost = lost_with_option }) gained.without_option,
    ),
    gained_by_after one.by old.by new.by granted gained.by,
  )

  -- there is one where there was none
  pub granted_first : (option : Bool) (others : GrantSlots)
      → IsGranted granted option (privilege_of (held_by_one None) others lost lost_with_option)
      (privilege_of (held_by_one (Some (record { slot = granted.slot; grantor = granted.grantor; option = option }))) others lost lost_with_option)
  granted_first true others = (
    (
      record { slots = λ k. or-turned (granted.slot == k) (is_one_of others.plain k); lost = refl },
      record { slots = λ k. or-turned (granted.slot == k) (is_one_of others.with_option k); lost = refl },
      tt,
    ),
    λ user k. or-turned (same_granted granted (record { grantor = user; slot = k })) (has_by others.by user k),
  )
  granted_first false others = (
    (record { slots = λ k. or-turned (granted.slot == k) (is_one_of others.plain k); lost = refl }, tt, refl),
    λ user k. or-turned (same_granted granted (record { grantor = user; slot = k })) (has_by others.by user k),
  )

  -- both have one less
  pub withdrawn : (option : Bool) (place : ℕ) (one one-after others after : GrantSlots) (left left_with_option : Option ℕ)
      → HasLostGrant granted option one one-after → HasLostGrant granted option others after → left ≡ later_of lost (Some place)
      → left_with_option ≡ (if option then later_of lost_with_option (Some place) else lost_with_option)
      → IsWithdrawn granted place option (privilege_of one others lost lost_with_option) (privilege_of one-after after left left_with_option)
  withdrawn true place one one-after others after left left_with_option first second is with_option = (
    (
      record { slots = lost_slots one.plain one-after.plain others.plain after.plain granted.slot first.plain second.plain; lost = is },
      record { slots = lost_slots one.with_option one-after.with_option others.with_option after.with_option granted.slot first.with_option second.with_option; lost = with_option },
      tt,
    ),
    lost_by one.by one-after.by others.by after.by granted first.by second.by,
  )
  withdrawn false place one one-after others after left left_with_option first second is without = (
    (record { slots = lost_slots one.plain one-after.plain others.plain after.plain granted.slot first.plain second.plain; lost = is }, tt, same),
    lost_by one.by one-after.by others.by after.by granted first.by second.by,
  )
    where
      force : List ℕ → List ℕ → Option ℕ → Force
      force first second last = record { slots = first ++ second; lost = last }

      same : force one-after.with_option after.with_option left_with_option ≡ force one.with_option others.with_option lost_with_option
      same =
          ap (λ slots. force slots after.with_option left_with_option) first.without_option
          ∙ ap (λ slots. force one.with_option slots left_with_option) second.without_option
          ∙ ap (force one.with_option others.with_option) without

-- a search of both
pub next_of_both : (option : Bool) (one others : GrantSlots) (lost lost_with_option : Option ℕ) (from : ℕ) (found : Option ℕ)
    → IsFirst (λ k. is_one_of (slots_given option one) k || is_one_of (slots_given option others) k) from found
    → IsFirst (is_one_of (force_of option (privilege_of one others lost lost_with_option)).slots) from found
next_of_both true one others lost lost_with_option from found is =
    first_as (λ k. is_one_of one.with_option k || is_one_of others.with_option k) _ (λ k. sym (slots-append one.with_option others.with_option k)) from found is
next_of_both false one others lost lost_with_option from found is =
    first_as (λ k. is_one_of one.plain k || is_one_of others.plain k) _ (λ k. sym (slots-append one.plain others.plain k)) from found is
