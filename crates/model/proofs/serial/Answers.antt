-- The outcomes that are found are those of the places, one after another.
use Rattle.std.proofs.Common.{ℕ, List, ap, ◌∙◌}
use Rattle.std.specs.Prelude.{slice_get}
use Rattle.model_base.specs.declared.outcome.Outcome.{Outcome}
use Rattle.model_base.specs.Outcomes.{empty_world}
use Rattle.model.specs.State.{world_of}
use Rattle.model.proofs.Outcomes.{all_found, outcomes_from, slice_get-outcomes}
use Rattle.model.proofs.serial.Goals as goal

pub returns : goal.returns
returns c place =
    let statements = c.args.statements.now in
    ap (λ (outcomes : List Outcome). slice_get outcomes place)
    (all_found c.in_ok-owners.owners.items c.loop-place.place (world_of c.loop-place.state) statements c.loop-place.outcomes.items c.loop-place-test.false c.loop-place.invariant
    ∙ ap (λ (owners : List ℕ). outcomes_from owners 0 empty_world statements) c.in_ok-owners.ensures)
    ∙ slice_get-outcomes statements place
