-- One more step of the loops over statements and deeds.
use Rattle.std.proofs.Common.{◌≡◌, ℕ, ◌+◌, ◌<◌, ◌&&◌, not, Bool, true, false, List, [], ◌∷◌, ◌++◌, length, take, drop, get_or, refl, sym, ◌∙◌, ap, add-one, drop-cons}
use Rattle.std.specs.Prelude.{if◌then◌else◌}
use Rattle.std.specs.List.{list_any}
use Rattle.std.specs.Option.{option_to_list}
use Rattle.std.proofs.Math.Seq.{take-suc}
use Rattle.model_base.specs.declared.deed.Need.{Need}
use Rattle.model_base.specs.declared.deed.Cause.{Cause}
use Rattle.model_base.specs.declared.deed.Cause.TheVariants.{Taken}
use Rattle.model_base.specs.declared.deed.Deed.{Deed}
use Rattle.model_base.specs.declared.deed.Deed.TheVariants.{Granting, Revoking}
use Rattle.model_base.specs.Outcomes.{cause_after}
use Rattle.model_base.specs.Privileges.{holds, place_of, erased, revokes}
use Rattle.model.specs.Replay.{unerased}

erased-cons : (deed : Deed) (later : List Deed) → erased (deed ∷ later) ≡ option_to_list (unerased deed later) ++ erased later
erased-cons (Revoking revocation) later = refl
erased-cons (Granting grant) later = by_named (list_any (λ deed. revokes deed grant) later) refl
  where
    by_named : (b : Bool) → list_any (λ deed. revokes deed grant) later ≡ b
        → erased (Granting grant ∷ later) ≡ option_to_list (unerased (Granting grant) later) ++ erased later
    by_named true named = rw named refl
    by_named false other = rw other refl

-- the grants of the deeds from one on: its own, if no later deed names it, and those of the later deeds
pub erased_step : (deeds : List Deed) (i : ℕ) (deed : Deed) → i < length deeds
    → erased (drop i deeds) ≡ option_to_list (unerased (get_or deeds i deed) (drop (i + 1) deeds)) ++ erased (drop (i + 1) deeds)
erased_step deeds i deed within =
    let one : drop i deeds ≡ get_or deeds i deed ∷ drop (i + 1) deeds = rw (add-one i) (drop-cons deeds i deed within) in
    ap erased one ∙ erased-cons (get_or deeds i deed) (drop (i + 1) deeds)

-- one more deed is looked at for the cause: it is the last that took the need away, or leaves what was found
pub cause_step : (owners : List ℕ) (user : ℕ) (need : Need) (deeds : List Deed) (i : ℕ) (deed : Deed) (found : Cause) → i < length deeds
    → cause_after owners user need (take i deeds) (drop i deeds) found
    ≡ cause_after owners user need (take (i + 1) deeds) (drop (i + 1) deeds)
    (if holds owners (take i deeds) user need && not (holds owners (take (i + 1) deeds) user need) then Taken (place_of (get_or deeds i deed)) else found)
cause_step owners user need deeds i deed found within =
    let one : drop i deeds ≡ get_or deeds i deed ∷ drop (i + 1) deeds = rw (add-one i) (drop-cons deeds i deed within) in
    let more : take (i + 1) deeds ≡ take i deeds ++ get_or deeds i deed ∷ [] = rw (add-one i) (take-suc deeds i deed within) in
    ap (λ later. cause_after owners user need (take i deeds) later found) one
    ∙ ap (λ past. cause_after owners user need past (drop (i + 1) deeds)
    (if holds owners (take i deeds) user need && not (holds owners past user need) then Taken (place_of (get_or deeds i deed)) else found)) (sym more)

module _ (owners : List ℕ) (user : ℕ) (need : Need) (deeds : List Deed) (i : ℕ) (deed : Deed) (found : Cause) (within : i < length deeds)
    (was_held is_held : Bool) (was : was_held ≡ holds owners (take i deeds) user need) (is : is_held ≡ holds owners (take (i + 1) deeds) user need) where
  step : cause_after owners user need (take i deeds) (drop i deeds) found
      ≡ cause_after owners user need (take (i + 1) deeds) (drop (i + 1) deeds) (if was_held && not is_held then Taken (place_of (get_or deeds i deed)) else found)
  step = rw (was, is) (cause_step owners user need deeds i deed found within)

  -- the need was taken away by this deed
  pub cause_lost : (place : ℕ) → was_held ≡ true → is_held ≡ false → place ≡ place_of deed → deed ≡ get_or deeds i deed
      → cause_after owners user need (take i deeds) (drop i deeds) found ≡ cause_after owners user need (take (i + 1) deeds) (drop (i + 1) deeds) (Taken place)
  cause_lost place held lost at here =
      let taken : (was_held && not is_held) ≡ true = rw (held, lost) refl in
      step ∙ ap (λ (b : Bool). cause_after owners user need (take (i + 1) deeds) (drop (i + 1) deeds) (if b then Taken (place_of (get_or deeds i deed)) else found)) taken
      ∙ ap (λ (q : ℕ). cause_after owners user need (take (i + 1) deeds) (drop (i + 1) deeds) (Taken q)) (sym (at ∙ ap place_of here))

  -- it was not
  pub cause_stays : (was_held && not is_held) ≡ false
      → cause_after owners user need (take i deeds) (drop i deeds) found ≡ cause_after owners user need (take (i + 1) deeds) (drop (i + 1) deeds) found
  cause_stays stays =
      step ∙ ap (λ (b : Bool). cause_after owners user need (take (i + 1) deeds) (drop (i + 1) deeds) (if b then Taken (place_of (get_or deeds i deed)) else found)) stays
