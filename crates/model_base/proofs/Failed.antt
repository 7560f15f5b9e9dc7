-- What fails changes nothing.
use Rattle.std.proofs.Common.{◌≡◌, ℕ, ◌+◌, List, [], Option, Some, None, refl, ◌∙◌, ap, inl, inr, subst}
use Rattle.std.specs.Prelude.{map, slice_get}
use Rattle.std.specs.Option.{option_map, option_map_or}
use Rattle.model_base.specs.declared.deed.Deed.{Deed}
use Rattle.model_base.specs.declared.deed.Need.{Need}
use Rattle.model_base.specs.declared.statement.Access.{Access}
use Rattle.model_base.specs.declared.statement.Form.{Form}
use Rattle.model_base.specs.declared.statement.Statement.{Statement}
use Rattle.model_base.specs.Body.{Ending, completed, aborted, undeclared}
use Rattle.model_base.specs.Rows.{Rows}
use Rattle.model_base.specs.Admitted.{HasFailed}
use Rattle.model_base.specs.Outcomes.{World, at_place, body, changed, deeds_before, deeds_of, ended, judged, missing, outcome, owners, rows_before, step_form, world_before}
use Rattle.model_base.specs.Versions.{copied_cells, version_cells, writes_of}
use Rattle.model_base.proofs.Growth.{world_before-next}

module _ (owners : List ℕ) (place : ℕ) (world : World) (statement : Statement) where
  -- a body that fails
  same-changed : (deeds : List Deed) (ending : Ending) → HasFailed (Some (ended owners world deeds ending)) → changed world deeds ending ≡ world
  same-changed deeds (completed rows outputs) failed = absurd failed
  same-changed deeds (aborted step reason) failed = refl
  same-changed deeds (undeclared step) failed = refl

  -- a judgment that fails
  same-judged : (lack : Option Need) → HasFailed (Some (judged owners place world statement lack).0)
      → (judged owners place world statement lack).1 ≡ world
  same-judged (Some need) failed = refl
  same-judged None failed = same-changed (deeds_of place statement.user statement.form) (body world.rows statement.form) failed

  -- a statement of each form that fails
  same-form : (form : Form) → HasFailed (Some (step_form owners place world statement form).0)
      → (step_form owners place world statement form).1 ≡ world
  same-form (Form.Create table columns) failed = refl
  same-form (Form.Run accesses steps deed) failed = same-judged (missing owners world statement.user (Form.Run accesses steps deed)) failed
  same-form (Form.Deed deed) failed = same-judged (missing owners world statement.user (Form.Deed deed)) failed

-- after a place that fails all is as before it
pub failed-same : (log : List Statement) (place : ℕ) → HasFailed (outcome log place) → world_before log (place + 1) ≡ world_before log place
failed-same log place failed =
    elim (world_before-next log place) [
      | inl same ↦ same
      | inr next ↦
          let found =
          subst
          (λ (found : Option Statement). HasFailed (option_map (λ statement. (at_place (owners log) place (world_before log place) statement).0) found))
          next.1 failed in
          next.2 ∙ same-form (owners log) place (world_before log place) next.0 next.0.form found
    ]

pub failed-rows : (log : List Statement) (place : ℕ) → HasFailed (outcome log place) → rows_before log (place + 1) ≡ rows_before log place
failed-rows log place failed = ap (λ (world : World). world.rows) (failed-same log place failed)

pub failed-deeds : (log : List Statement) (place : ℕ) → HasFailed (outcome log place) → deeds_before log (place + 1) ≡ deeds_before log place
failed-deeds log place failed = ap (λ (world : World). world.deeds) (failed-same log place failed)

pub failed-cells : (log : List Statement) (place : ℕ) → HasFailed (outcome log place) → version_cells log place ≡ copied_cells log place
failed-cells log place failed =
    ap
    (λ (rows : Rows). map (λ (access : Access). rows access.key.table access.key.row) (option_map_or writes_of (slice_get log place) []))
    (failed-rows log place failed)
