-- What a standing says.
use Rattle.std.proofs.Common.{◌≡◌, ℕ, Bool, true, false, Option, Some, refl}
use Rattle.std.specs.Prelude.{◌==◌, if◌then◌else◌}
use Rattle.std.specs.List.{list_any}
use Rattle.model_base.specs.declared.deed.Need.{Need}
use Rattle.grants_base.specs.View.{View, holds_in, slot_gives}
use Rattle.grants.specs.declared.holding.NeedState.TheVariants.{Held, Lost}
use Rattle.grants.proofs.ViewLaws.{told_by}

pub when_held : (given : Bool) (place : Option ℕ) → Held ≡ (if given then Held else Lost place) → given ≡ true
when_held true place is = refl
when_held false place is = absurd (cc)

pub when_lost : (given : Bool) (place end : Option ℕ) → Lost end ≡ (if given then Held else Lost place) → (given ≡ false) × (end ≡ place)
when_lost true place end is = absurd (cc)
when_lost false place end is = let same : end ≡ place = cc in (refl, same)

-- with the owner, what the slots tell is what the view says
pub held_by_owner : (view : View) (user owner : ℕ) (need : Need) → view.owner need.table ≡ Some owner → (owner == user) ≡ true → holds_in view user need ≡ true
held_by_owner view user owner need is own = rw (← told_by view user owner need is, own) refl

pub held_by_slots : (view : View) (user owner : ℕ) (need : Need) → view.owner need.table ≡ Some owner → (owner == user) ≡ false
    → list_any (λ slot. slot_gives slot user need) view.slots ≡ holds_in view user need
held_by_slots view user owner need is other = rw (← told_by view user owner need is, other) refl
