-- A pass that only learns after it ran a place.
use Rattle.std.proofs.Common.{◌≡◌, ℕ, ◌∙◌}
use Rattle.std.specs.Prelude.{Result, Ok}
use Rattle.std.specs.declared.alloc.AllocError.{AllocError}
use Rattle.bohm_core_base.specs.Batch.{Batch}
use Rattle.words.specs.declared.knowledge.Knowledge.{Knowledge}
use Rattle.filling_base.specs.declared.run.Tried.{Tried}
use Rattle.filling_base.specs.declared.run.Tried.TheVariants.{Done}
use Rattle.filling_base.specs.Extending.{NoPlace, OnlyLearns}
use Rattle.filling_base.specs.Tries.{TriedMeans}
use Rattle.filling_base.proofs.Going.{goes-then}

-- what is told of it stands
pub done-learnt : (b : Batch) (index : ℕ) (v u w : Knowledge) (answer : Result Tried AllocError) → answer ≡ Ok Done → TriedMeans b index v answer u
    → OnlyLearns u w → TriedMeans b index v (Ok Done) w
done-learnt b index v u w answer is tells learns =
    let told : TriedMeans b index v (Ok Done) u = rw is at tells in
    (goes-then NoPlace v u w told.0 learns.goes, learns.sightings ∙ told.1, learns.goes.knows index told.2)
