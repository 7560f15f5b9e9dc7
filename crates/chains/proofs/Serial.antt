-- A place of a log changes no row that its statement doesn't declare to write.
use Rattle.std.proofs.Common.{inl, inr, ◌≡◌, ℕ, zero, suc, ◌+◌, ◌<◌, ◌≤◌, false, Option, Some, None, List, [], ◌∷◌, ◌++◌, take, length, get_or, refl, sym, ◌∙◌, ap, arith}
use Rattle.std.specs.Prelude.{slice_get}
use Rattle.std.specs.Option.{option_map_or}
use Rattle.std.proofs.lemmas.List.{take_all, take_more, length-take-le}
use Rattle.std.proofs.lemmas.Option.{slice_get_cases, slice_get_within, get_or_from_slice_get}
use Rattle.model_base.specs.declared.deed.Deed.{Deed}
use Rattle.model_base.specs.declared.deed.Need.{Need}
use Rattle.model_base.specs.declared.statement.Form.{Form}
use Rattle.model_base.specs.declared.statement.Statement.{Statement}
use Rattle.model_base.specs.Body.{Ending, completed, aborted, undeclared}
use Rattle.model_base.specs.Outcomes.{World, at_place, body, changed, deeds_of, empty_world, judged, missing, owners, rows_before, step_form, world_after, world_before}
use Rattle.model_base.specs.References.{declares_write}
use Rattle.model_base.proofs.Growth.{world_after-snoc}
use Rattle.body.proofs.Frame.{leaves_unwritten}

module _ (own : List ℕ) (place : ℕ) (world : World) (statement : Statement) (table row : ℕ)
    (unwritten : declares_write table row statement ≡ false) where
  kept-changed : (deeds : List Deed) (ending : Ending) → body world.rows statement.form ≡ ending
      → (changed world deeds ending).rows table row ≡ world.rows table row
  kept-changed deeds (completed rows outputs) ends = leaves_unwritten statement world.rows rows outputs table row ends unwritten
  kept-changed deeds (aborted step reason) ends = refl
  kept-changed deeds (undeclared step) ends = refl

  kept-judged : (lack : Option Need) → (judged own place world statement lack).1.rows table row ≡ world.rows table row
  kept-judged (Some need) = refl
  kept-judged None = kept-changed (deeds_of place statement.user statement.form) (body world.rows statement.form) refl

  kept-form : (form : Form) → (step_form own place world statement form).1.rows table row ≡ world.rows table row
  kept-form (Form.Create name columns) = refl
  kept-form (Form.Run accesses steps deed) = kept-judged (missing own world statement.user (Form.Run accesses steps deed))
  kept-form (Form.Deed deed) = kept-judged (missing own world statement.user (Form.Deed deed))

  kept-at_place : (at_place own place world statement).1.rows table row ≡ world.rows table row
  kept-at_place = kept-form statement.form

-- what is after one place more
pub world_before-more : (log : List Statement) (place : ℕ) (statement : Statement) → slice_get log place ≡ Some statement
    → world_before log (place + 1) ≡ (at_place (owners log) place (world_before log place) statement).1
world_before-more log place statement is =
    let within : place < length log = slice_get_within log place statement is in
    let here : get_or log place statement ≡ statement = get_or_from_slice_get log place statement statement is in
    let one : take (place + 1) log ≡ take place log ++ statement ∷ [] =
    take_more log place statement within ∙ ap (λ s. take place log ++ s ∷ []) here in
    let long : 0 + length (take place log) ≡ place = omega (arith, length-take-le place log (omega arith)) in
    ap (world_after (owners log) 0 empty_world) one
    ∙ world_after-snoc (owners log) 0 empty_world (take place log) statement
    ∙ ap (λ (at : ℕ). (at_place (owners log) at (world_before log place) statement).1) long

-- a place without a statement is after the log's end, where nothing changes
pub past-end : (log : List Statement) (place : ℕ) → slice_get log place ≡ None → length log ≤ place
past-end [] place is = omega arith
past-end (statement ∷ log) zero is = cc
past-end (statement ∷ log) (suc place) is = let rest : length log ≤ place = past-end log place is in omega arith

pub world_before-past : (log : List Statement) (place : ℕ) → length log ≤ place → world_before log (place + 1) ≡ world_before log place
world_before-past log place past =
    let next : length log ≤ place + 1 = omega arith in
    ap (world_after (owners log) 0 empty_world) (take_all (place + 1) log next ∙ sym (take_all place log past))

-- a place whose statement doesn't declare to write the row keeps it
pub rows_before-unwritten : (log : List Statement) (place table row : ℕ)
    → option_map_or (declares_write table row) (slice_get log place) false ≡ false
    → rows_before log (place + 1) table row ≡ rows_before log place table row
rows_before-unwritten log place table row unwritten =
    elim (slice_get_cases log place).1 [
      | inl at ↦
          ap (λ (world : World). world.rows table row) (world_before-more log place at.0 at.2)
          ∙ kept-at_place (owners log) place (world_before log place) at.0 table row (rw at.2 at unwritten)
      | inr past ↦ ap (λ (world : World). world.rows table row) (world_before-past log place past.0)
    ]
