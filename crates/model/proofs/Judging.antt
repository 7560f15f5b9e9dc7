-- How a place is judged, from the grants in force and the needs of its statement.
use Rattle.std.proofs.Common.{◌≡◌, ℕ, not, List, Option, refl, ap, sym, ◌∙◌}
use Rattle.std.specs.List.{find}
use Rattle.model_base.specs.declared.deed.Grant.{Grant}
use Rattle.model_base.specs.declared.deed.Need.{Need}
use Rattle.model_base.specs.declared.statement.Form.{Form}
use Rattle.model_base.specs.declared.statement.Statement.{Statement}
use Rattle.model_base.specs.Privileges.{has, kept}
use Rattle.model_base.specs.Outcomes.{World, at_place, judged, missing, needs, step_form}

module _ (owners : List ℕ) (place : ℕ) (world : World) (statement : Statement) where
  by_form : (form : Form) → ((table columns : ℕ) → form ≡ Form.Create table columns → ⊥)
      → step_form owners place world statement form ≡ judged owners place world statement (missing owners world statement.user form)
  by_form (Form.Create table columns) other = absurd (other table columns refl)
  by_form (Form.Run accesses steps deed) other = refl
  by_form (Form.Deed deed) other = refl

  -- a statement that creates no table is judged by the first need that its user doesn't have by the grants in force
  pub at_place-judged : (grants : List Grant) (lack : Option Need)
      → ((table columns : ℕ) → statement.form ≡ Form.Create table columns → ⊥)
      → grants ≡ kept owners world.deeds
      → lack ≡ find (λ need. not (has owners grants statement.user need)) (needs statement.form)
      → at_place owners place world statement ≡ judged owners place world statement lack
  at_place-judged grants lack other in_force first =
      by_form statement.form other
      ∙ ap (judged owners place world statement)
      (sym (first ∙ ap (λ (gs : List Grant). find (λ need. not (has owners gs statement.user need)) (needs statement.form)) in_force))
