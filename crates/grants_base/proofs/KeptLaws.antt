-- What is kept where no grant was made, and with the first.
use Rattle.std.proofs.Common.{◌≡◌, ℕ, Bool, true, false, [], ◌∷◌, Option, Some, None, is_none, refl, sym, ◌∙◌}
use Rattle.std.specs.Prelude.{◌≢◌, IfSome, if◌then◌else◌}
use Rattle.std.proofs.lemmas.Bool.{ne_eqb}
use Rattle.grants_base.specs.Force.{IsGranted, held_by_one, no_grant_slots, no_privilege, privilege_of}
use Rattle.grants_base.specs.Index.{IsOnly, is_one_of}
use Rattle.grants_base.specs.declared.force.Given.{Given}
use Rattle.grants_base.specs.Kept.{IsWide, lost_with_option, no_side, one_in_force, several_of, several_of_one}
use Rattle.std.specs.declared.alloc.Global.{Global}
use Rattle.std.specs.declared.boxed.Box.{Box}
use Rattle.grants_base.specs.declared.grantor_set.Granted.{Granted}
use Rattle.grants_base.specs.declared.side.Kept.{Kept}
use Rattle.grants_base.specs.declared.side.Kept.TheVariants.{Nothing, One, Many}
use Rattle.grants_base.specs.declared.side.Only.{Only}
use Rattle.grants_base.specs.declared.side.Several.{Several}
use Rattle.grants_base.proofs.PrivilegeLaws.{granted_first}

abbrev pub first_only : Granted → Bool → Only
first_only granted option = record { given = record { slot = granted.slot; grantor = granted.grantor; option = option }; lost = None }

pub nothing_kept : (kept : Kept) (side : Several) → several_of kept ≡ side → IsWide kept → ((several : Box Several Global) → kept ≡ Many several → ⊥) → side ≡ no_side
nothing_kept Nothing side is wide apart = sym is
nothing_kept (One only) side is wide apart = absurd wide
nothing_kept (Many several) side is wide apart = absurd (apart several refl)

pub first_granted : (granted : Granted) (option : Bool) → IsGranted granted option no_privilege (several_of_one (first_only granted option)).privilege
first_granted granted true = granted_first granted None None true no_grant_slots
first_granted granted false = granted_first granted None None false no_grant_slots

-- of one grant at most, no slot but its own is found
apart_from : (slot k : ℕ) → k ≢ slot → is_one_of (slot ∷ []) k ≡ false
apart_from slot k other = rw (ne_eqb slot k (λ same. other (sym same))) refl

pub only_of : (one : Option Given) (slot : ℕ) (lost lost_with_option : Option ℕ) → IfSome one (λ (given : Given). given.slot ≡ slot)
    → IsOnly (is_one_of (privilege_of (held_by_one one) no_grant_slots lost lost_with_option).plain.slots) slot
only_of None slot lost lost_with_option is k other = refl
only_of (Some given) slot lost lost_with_option is k other = apart_from given.slot k (λ same. other (same ∙ is))

pub only_standing : (only : Only) → IsOnly (is_one_of (several_of_one only).privilege.plain.slots) only.given.slot
only_standing only = only_of (one_in_force only) only.given.slot only.lost (lost_with_option only) (stands only.lost)
  where
    stands : (lost : Option ℕ) → IfSome (if is_none lost then Some only.given else None) (λ (given : Given). given.slot ≡ only.given.slot)
    stands None = refl
    stands (Some place) = tt
