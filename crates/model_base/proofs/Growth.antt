-- The deeds of a log grow by what each place makes, and are proper.
use Rattle.std.proofs.Common.{◌≡◌, ℕ, zero, suc, ◌+◌, ◌<◌, ◌≤◌, List, [], ◌∷◌, ◌++◌, length, Option, Some, None, refl, sym, ◌∙◌, ap, arith, ◌⊎◌, inl, inr, add-one, subst}
use Rattle.std.specs.Prelude.{All, slice_get, take}
use Rattle.std.proofs.Math.Seq.{take-nil}
use Rattle.std.proofs.lemmas.List.{append-nil, length-take}
use Rattle.std.proofs.lemmas.List.Elements.{All-nil, All-append, All-weaker}
use Rattle.model_base.specs.declared.deed.Need.{Need}
use Rattle.model_base.specs.declared.deed.Deed.{Deed}
use Rattle.model_base.specs.declared.statement.Form.{Form}
use Rattle.model_base.specs.declared.statement.Statement.{Statement}
use Rattle.model_base.specs.Privileges.{place_of, IsProper, IsProperAfter}
use Rattle.model_base.specs.Body.{Ending, completed, aborted, undeclared}
use Rattle.model_base.specs.Outcomes.{World, at_place, body, changed, deeds_before, deeds_of, empty_world, judged, missing, owners, step_form, world_after, world_before}
use Rattle.model_base.specs.Laws.{GrowsAt, IsGranting}
use Rattle.model_base.proofs.Places.{proper-join}
use Rattle.model_base.proofs.Cuts.{deeds_below-whole}
use Rattle.model_base.proofs.Made.{deeds_of-one, deeds_of-placed, deeds_of-proper}

-- the beginning of a log grows by the statement at its end, or is the whole
pub take-next : {X : Type 0} (n : ℕ) (xs : List X)
    → (take (suc n) xs ≡ take n xs)
    ⊎ ((x : X) × (take (suc n) xs ≡ take n xs ++ x ∷ []) × (length (take n xs) ≡ n) × (slice_get xs n ≡ Some x))
take-next n [] = inl (sym (take-nil n))
take-next zero (x ∷ xs) = inr (x, refl, refl, refl)
take-next (suc n) (x ∷ xs) =
    elim (take-next n xs) [
      | inl whole ↦ inl (ap (λ r. x ∷ r) whole)
      | inr more ↦ inr (more.0, ap (λ r. x ∷ r) more.1, ap suc more.2, more.3)
    ]

-- the deeds are proper, and their places lie below this one
pub record Stands (owners : List ℕ) (place : ℕ) (deeds : List Deed) : Type 0 where
  pub proper : IsProper owners deeds
  pub below : All (λ deed. place_of deed < place) deeds

-- and below each later one
pub stands-later : (owners : List ℕ) (place : ℕ) (deeds : List Deed) → Stands owners place deeds → Stands owners (place + 1) deeds
stands-later owners place deeds stands = record {
  proper = stands.proper;
  below = All-weaker (λ deed. place_of deed < place) (λ deed. place_of deed < place + 1) (λ deed less. omega arith) deeds stands.below;
}

-- deeds of the place that may follow stand with them before the next
pub stands-more : (owners : List ℕ) (place : ℕ) (deeds made : List Deed)
    → Stands owners place deeds → All (λ deed. place_of deed ≡ place) made → IsProperAfter owners deeds made
    → Stands owners (place + 1) (deeds ++ made)
stands-more owners place deeds made stands here more = record {
  proper = proper-join owners [] deeds made stands.proper more;
  below = All-append (λ deed. place_of deed < place + 1) deeds made (stands-later owners place deeds stands).below
      (All-weaker (λ deed. place_of deed ≡ place) (λ deed. place_of deed < place + 1) (λ deed at. omega arith) made here);
}

-- deeds that stay the same grow by none
grows-none : (place : ℕ) (before after : List Deed) → after ≡ before → GrowsAt place before after
grows-none place before after same =
    ([], same ∙ sym (append-nil before), All-nil (λ deed. place_of deed ≡ place), inl (All-nil IsGranting))

-- what a place makes of the deeds before it
pub record IsNext (owners : List ℕ) (place : ℕ) (before after : List Deed) : Type 0 where
  pub grows : GrowsAt place before after
  pub stands : Stands owners place before → Stands owners (place + 1) after

module _ (owners : List ℕ) (place : ℕ) (world : World) (statement : Statement) where
  -- most places make no deed
  next-same : IsNext owners place world.deeds world.deeds
  next-same = record { grows = grows-none place world.deeds world.deeds refl; stands = stands-later owners place world.deeds }

  -- what a body's end makes of them
  next-changed : (ending : Ending) → missing owners world statement.user statement.form ≡ None
      → IsNext owners place world.deeds (changed world (deeds_of place statement.user statement.form) ending).deeds
  next-changed (completed rows outputs) held =
      let made = deeds_of place statement.user statement.form in
      let here = deeds_of-placed place statement.user statement.form in
      record {
        grows = (made, refl, here, deeds_of-one place statement.user statement.form);
        stands = λ stands.
            stands-more owners place world.deeds made stands here
            (deeds_of-proper owners place statement.user world.deeds stands.below (deeds_below-whole place world.deeds stands.below) statement.form held);
      }
  next-changed (aborted step reason) held = next-same
  next-changed (undeclared step) held = next-same

  -- what the judgment does
  next-judged : (lack : Option Need) → missing owners world statement.user statement.form ≡ lack
      → IsNext owners place world.deeds (judged owners place world statement lack).1.deeds
  next-judged (Some need) is = next-same
  next-judged None is = next-changed (body world.rows statement.form) is

  -- what a statement of each form does
  next-form : (form : Form) → statement.form ≡ form → IsNext owners place world.deeds (step_form owners place world statement form).1.deeds
  next-form (Form.Create table columns) is = next-same
  next-form (Form.Run accesses steps deed) is =
      next-judged (missing owners world statement.user (Form.Run accesses steps deed)) (ap (missing owners world statement.user) is)
  next-form (Form.Deed deed) is =
      next-judged (missing owners world statement.user (Form.Deed deed)) (ap (missing owners world statement.user) is)

  -- a place adds deeds that may follow those before it
  pub next-at_place : IsNext owners place world.deeds (at_place owners place world statement).1.deeds
  next-at_place = next-form statement.form refl

-- one more statement is one more place
pub world_after-snoc : (owners : List ℕ) (place : ℕ) (world : World) (statements : List Statement) (statement : Statement)
    → world_after owners place world (statements ++ statement ∷ [])
    ≡ (at_place owners (place + length statements) (world_after owners place world statements) statement).1
world_after-snoc owners place world [] statement =
    let same : place ≡ place + 0 = omega arith in
    ap (λ (at : ℕ). (at_place owners at world statement).1) same
world_after-snoc owners place world (first ∷ statements) statement =
    let next = (at_place owners place world first).1 in
    let same : (place + 1) + length statements ≡ place + suc (length statements) = omega arith in
    world_after-snoc owners (place + 1) next statements statement
    ∙ ap (λ (at : ℕ). (at_place owners at (world_after owners (place + 1) next statements) statement).1) same

-- after some statements the deeds stand so before the next place
stands-after : (owners : List ℕ) (place : ℕ) (world : World) (statements : List Statement) → Stands owners place world.deeds
    → Stands owners (place + length statements) (world_after owners place world statements).deeds
stands-after owners place world [] stands =
    let same : place ≡ place + 0 = omega arith in
    subst (λ (at : ℕ). Stands owners at world.deeds) same stands
stands-after owners place world (first ∷ statements) stands =
    let next = (at_place owners place world first).1 in
    let same : (place + 1) + length statements ≡ place + suc (length statements) = omega arith in
    subst (λ (at : ℕ). Stands owners at (world_after owners (place + 1) next statements).deeds) same
    (stands-after owners (place + 1) next statements ((next-at_place owners place world first).stands stands))

-- the deeds before a place are proper, and lie below it
pub deeds_before-stands : (log : List Statement) (place : ℕ) → Stands (owners log) place (deeds_before log place)
deeds_before-stands log place =
    let stands = stands-after (owners log) 0 empty_world (take place log) (record { proper = tt; below = All-nil (λ deed. place_of deed < 0) }) in
    let long : length (take place log) ≤ place = omega (arith, length-take place log) in
    record {
      proper = stands.proper;
      below =
          All-weaker (λ deed. place_of deed < 0 + length (take place log)) (λ deed. place_of deed < place) (λ deed less. omega arith)
          (deeds_before log place) stands.below;
    }

-- before the next place is what this one makes of what is before it; past the log nothing changes
pub world_before-next : (log : List Statement) (place : ℕ)
    → (world_before log (place + 1) ≡ world_before log place)
    ⊎ ((statement : Statement) × (slice_get log place ≡ Some statement)
    × (world_before log (place + 1) ≡ (at_place (owners log) place (world_before log place) statement).1))
world_before-next log place =
    let after : List Statement → World = world_after (owners log) 0 empty_world in
    let one : world_before log (place + 1) ≡ after (take (suc place) log) = ap (λ (n : ℕ). after (take n log)) (add-one place) in
    elim (take-next place log) [
      | inl whole ↦ inl (one ∙ ap after whole)
      | inr more ↦
          let long : length (take place log) ≡ place = more.2 in
          let here : 0 + length (take place log) ≡ place = omega arith in
          inr (
            more.0,
            more.3,
            one ∙ ap after more.1 ∙ world_after-snoc (owners log) 0 empty_world (take place log) more.0
                ∙ ap (λ (at : ℕ). (at_place (owners log) at (world_before log place) more.0).1) here,
          )
    ]

-- one place more makes grants, or one revocation
pub deeds_before-grows : (log : List Statement) (place : ℕ) → GrowsAt place (deeds_before log place) (deeds_before log (place + 1))
deeds_before-grows log place =
    elim (world_before-next log place) [
      | inl same ↦ grows-none place (deeds_before log place) (deeds_before log (place + 1)) (ap (λ (world : World). world.deeds) same)
      | inr next ↦
          subst (λ (world : World). GrowsAt place (deeds_before log place) world.deeds) (sym next.2)
          (next-at_place (owners log) place (world_before log place) next.0).grows
    ]
