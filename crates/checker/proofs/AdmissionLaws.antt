-- A statement is admitted by what a view tells as it is after the deeds that the view shows.
use Rattle.std.proofs.Common.{◌≡◌, ℕ, false, not, List, Option, Some, None, refl, sym, ◌∙◌, ap}
use Rattle.std.specs.Prelude.{IsSome}
use Rattle.std.specs.List.{find}
use Rattle.std.specs.Option.{option_map}
use Rattle.model_base.specs.Outcomes.{cause}
use Rattle.model_base.specs.Privileges.{holds}
use Rattle.model_base.specs.declared.deed.Deed.{Deed}
use Rattle.model_base.specs.declared.deed.Need.{Need}
use Rattle.grants.specs.Loss.{cause_in}
use Rattle.grants_base.specs.View.{ShowsDeeds, View, holds_in}
use Rattle.checker.specs.Admission.{admitted_if, told_if}
use Rattle.checker.specs.Missing.{Covers, first_lacking, lack_of}
use Rattle.checker.specs.declared.admission.Admission.{Admission}
use Rattle.checker.specs.declared.missing.Lack.{Lack}
use Rattle.checker.proofs.MissingLaws.{first_shown, missing_is}

module _ (view : View) (user : ℕ) where
  -- a lack denies
  pub denied_by : (found : Option Need) (lack : Lack) → Some lack ≡ option_map (lack_of view user) found → Admission.Denied lack.need lack.cause ≡ told_if view user found
  denied_by None lack is = absurd (cc)
  denied_by (Some need) lack is =
      let same : lack ≡ lack_of view user need = cc in
      ap (λ (l : Lack). Admission.Denied l.need l.cause) same

  -- and none admits
  pub lacks_none : (found : Option Need) → None ≡ option_map (lack_of view user) found → found ≡ None
  lacks_none None is = refl
  lacks_none (Some need) is = absurd (cc)

  pub admitted_told : (owners : List ℕ) (deeds : List Deed) → ShowsDeeds view owners deeds → (needed : List Need) → Covers view needed
      → ((need : Need) → IsSome (view.owner need.table) → holds_in view user need ≡ false
      → cause owners deeds user need ≡ cause_in view user need)
      → told_if view user (first_lacking view user needed) ≡ admitted_if owners deeds user (find (λ need. not (holds owners deeds user need)) needed)
  admitted_told owners deeds shows needed covered causes =
      by_found (first_lacking view user needed) refl ∙ ap (admitted_if owners deeds user) (first_shown view user owners deeds shows needed covered)
    where
      by_found : (found : Option Need) → first_lacking view user needed ≡ found
          → told_if view user (first_lacking view user needed) ≡ admitted_if owners deeds user (first_lacking view user needed)
      by_found None is = ap (told_if view user) is ∙ sym (ap (admitted_if owners deeds user) is)
      by_found (Some need) is =
          let missing = missing_is view user needed need is covered in
          ap (told_if view user) is ∙ ap (λ why. Admission.Denied need why) (sym (causes need missing.1 missing.0)) ∙ sym (ap (admitted_if owners deeds user) is)
